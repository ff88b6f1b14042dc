-- Examples of the pick for each of several device names: one table under one claim. Statements only.
use Rattle.std.specs.Prelude.{ℕ, ◌≡◌, List, [], ◌∷◌, ◌++◌, replicate}
use Rattle.wire.specs.Bytes.{bytes}
use Rattle.entry_id.specs.Rules.{id_rules}
use Rattle.bundle.specs.Each.{no_picks, pick_each, slots_after}
use Rattle.bundle.specs.declared.PickedEach.{PickedEach}
use Rattle.examples.specs.Examples.{host, gfx906, hipv4, on, off, one_host, two, spans}

-- ---- what the examples speak of

-- a device name, by its start and its length in the buffer
abbrev pub part : ℕ → ℕ → List ℕ
part start len = start ∷ len ∷ []

abbrev pub slot : ℕ → ℕ → ℕ → ℕ → List ℕ
slot number index position size = number ∷ index ∷ position ∷ size ∷ []

-- a slot as it is lent
abbrev pub lent : List ℕ
lent = slot 1 2 3 4

-- a call that is accepted
abbrev pub picked : ℕ → ℕ → ℕ → PickedEach
picked slots word taken = record { number = 0; place = 0; slots = slots; word = word; taken = taken }

-- a bundle with the entry `host`, and one with two entries
abbrev pub hosted : List ℕ
hosted = one_host 5 (bytes "image")

abbrev pub cards : List ℕ
cards = two (on gfx906) (off hipv4)

-- a buffer of device names: `host` in the first 30 bytes, `gfx906` in the next 28
abbrev pub names : List ℕ
names = host ++ gfx906

-- another: each of the cards with the other spelling of its kind, of 37 bytes and of 35
abbrev pub spelled : List ℕ
spelled = on hipv4 ++ off gfx906

-- two names of one device: `host` with its last dash and without
abbrev pub dashes : List (List ℕ)
dashes = part 0 30 ∷ part 0 29 ∷ []

-- `gfx906`, no ID, a part that ends one byte past the buffer, and `host`
abbrev pub mixture : List (List ℕ)
mixture = part 30 28 ∷ part 0 4 ∷ part 30 29 ∷ part 0 30 ∷ []

-- `host` this many times
abbrev pub hosts : ℕ → List (List ℕ)
hosts n = replicate n (part 0 30)

-- ---- the table

pub record EachExamples : Type 0 where
  -- "some card took entry i, and how many entries are taken": two names that take one entry
  pub one_entry : pick_each id_rules hosted names dashes 3 ≡ picked 2 1 1
  -- "what lies past a length written stays as it was"
  pub one_entry_slots : slots_after id_rules hosted names dashes (replicate 3 lent) ≡ slot 0 0 86 5 ∷ slot 0 0 86 5 ∷ lent ∷ []
  -- each of two entries, by the other spelling of its kind
  pub both : pick_each id_rules cards spelled (part 37 35 ∷ part 0 37 ∷ []) 2 ≡ picked 2 3 2
  pub both_slots : slots_after id_rules cards spelled (part 37 35 ∷ part 0 37 ∷ []) (replicate 2 lent) ≡ slot 0 1 152 0 ∷ slot 0 0 152 0 ∷ []
  -- NONE and QUERY, each in its slot, beside a pick; "QUERY (also for a part outside the buffer)": one that ends a byte past it
  pub own : pick_each id_rules hosted names mixture 4 ≡ picked 4 1 1
  pub own_slots : slots_after id_rules hosted names mixture (replicate 4 lent) ≡ slot 10 0 0 0 ∷ slot 9 0 0 0 ∷ slot 9 0 0 0 ∷ slot 0 0 86 5 ∷ []
  -- no names
  pub no_names : pick_each id_rules hosted names [] 1 ≡ picked 0 0 0
  pub no_names_slots : slots_after id_rules hosted names [] (lent ∷ []) ≡ lent ∷ []
  -- "RACK, for more than 16 names, then ROOM for fewer slots than names"
  pub sixteen : pick_each id_rules hosted names (hosts 16) 16 ≡ picked 16 1 1
  pub seventeen : pick_each id_rules hosted names (hosts 17) 16 ≡ no_picks 23 0
  pub short : pick_each id_rules hosted names (hosts 16) 15 ≡ no_picks 12 0
  -- "A container refusal .. refuses the whole call", before both
  pub refused : pick_each id_rules (spans 0 4 3 4) names (hosts 17) 16 ≡ no_picks 21 1
  pub refused_slots : slots_after id_rules (spans 0 4 3 4) names dashes (replicate 2 lent) ≡ replicate 2 lent
