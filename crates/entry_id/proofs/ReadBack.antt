-- Reading back what is written: the canonical form of a proper meaning is an ID with that meaning. Assumes nothing.
use Prim.Native.Nat.{ℕ, ◌-◌, ◌≤◌}
use Prim.Native.Char.{code}
use mathlib.Core.Path.{◌≡◌, refl, sym, ap, ◌∙◌, subst}
use mathlib.Core.Logic.{inl, inr, ◌↔◌}
use mathlib.Core.Bool.{Bool, true, false, not, ◌||◌, cond}
use mathlib.Core.List.{List, [], ◌∷◌, ◌++◌, map}
use native.Mathlib.Omega.{arith}
use lib.ListN.{length, get_or, take, drop, length-append}
use lib.Seq.{take_at, get_or_at}
use lib.Dec.{T, eqb, leb, le→leb, leb→le}
use Rattle.wire.proofs.SortLaws.{sort_rising}
use Rattle.wire.specs.Lists.{any, every}
use Rattle.wire.specs.Order.{rising_by, sort_by}
use Rattle.wire.specs.Bytes.{empty, same}
use Rattle.entry_id.specs.Text.{split_on, join_with, other_than, not_colon}
use Rattle.wire.proofs.Bools.{and_l, and_r, and_t, or_t, or_l, is_true, is_false, of_true, cases, cond_case}
use Rattle.entry_id.proofs.TextLaws.{avoids, every_imp, every_append, split_join, split_join_last, join_split}
use Rattle.wire.proofs.ByteLaws.{same_eq}
use Rattle.entry_id.specs.Meaning.{by_name, Feature, Meaning, fields_of, pieces_of, names_processor, fifth_is_processor, feature, meaning_of, meaning, sign, piece, six_fields, canonical_of, name_byte, field_byte, processor_byte, processor_shaped, kinds, signed, named, shaped, proper, valid, canon}

-- ---- one feature

length-piece : (f : Feature) → length f.name ≡ length (piece f) - 1
unfolding piece
length-piece f = omega (arith, length-append f.name (sign f.on ∷ []))

last_piece : (f : Feature) → get_or (piece f) (length (piece f) - 1) 0 ≡ sign f.on
unfolding piece
last_piece f = get_or_at f.name (sign f.on) [] 0 (length (piece f) - 1) (length-piece f)

sign_back : (b : Bool) → eqb (sign b) (code "+") ≡ b
unfolding sign
sign_back true = refl
sign_back false = refl

pub feature-piece : (f : Feature) → feature (piece f) ≡ f
unfolding feature piece
feature-piece f =
    let p : take (length (piece f) - 1) (piece f) ≡ f.name = take_at f.name (sign f.on ∷ []) (length (piece f) - 1) (length-piece f) in
    let q : eqb (get_or (piece f) (length (piece f) - 1) 0) (code "+") ≡ f.on = ap (λ s. eqb s (code "+")) (last_piece f) ∙ sign_back f.on in
    λ i. record { name = p i; on = q i }

sign-signed : (b : Bool) → T (eqb (sign b) (code "+") || eqb (sign b) (code "-"))
unfolding sign
sign-signed true = tt
sign-signed false = tt

signed-piece : (f : Feature) → T (signed (piece f))
unfolding signed
signed-piece f = rw (last_piece f) (sign-signed f.on)

pub all_signed : (fs : List Feature) → T (every signed (map piece fs))
unfolding every
all_signed [] = tt
all_signed (f ∷ fs) = and_t (signed (piece f)) (every signed (map piece fs)) (signed-piece f) (all_signed fs)

-- ---- the features

pub features_pieces : (fs : List Feature) → map feature (map piece fs) ≡ fs
features_pieces [] = refl
features_pieces (f ∷ fs) = let p = feature-piece f in let q = features_pieces fs in cc

-- ---- what the rules ask, part by part

pub record Proper (m : Meaning) : Type 0 where
  pub kind_in : T (any (same m.kind) kinds)
  pub arch_some : T (not (empty m.arch))
  pub vendor_some : T (not (empty m.vendor))
  pub system_some : T (not (empty m.system))
  pub field_bytes_lem : T (every (every field_byte) (m.arch ∷ m.vendor ∷ m.system ∷ m.environment ∷ []))
  pub processor_shaped_lem : T (processor_shaped m.processor)
  pub all_named : T (every named m.features)
  pub in_order : T (rising_by by_name m.features)
  pub few : T (leb (length m.features) 8)
  pub with_proc : T (not (empty m.processor) || empty m.features)
  pub fits : T (leb (length (canonical_of m)) 256)

pub parts : (m : Meaning) → T (proper m) → Proper m
unfolding proper
parts m t = search (and_l, and_r) depth 13

-- ---- bytes

pub no_colon : T (not_colon (code ":")) → ⊥
unfolding other_than
no_colon t = t

pub no_dash : T (field_byte (code "-")) → ⊥
unfolding field_byte name_byte
no_dash t = t

field-processor : (x : ℕ) → T (field_byte x) → T (processor_byte x)
unfolding processor_byte
field-processor x t = or_l (field_byte x) (eqb x (code "-")) t

colon_no_processor : T (processor_byte (code ":")) → ⊥
unfolding processor_byte field_byte name_byte
colon_no_processor t = t

processor-not_colon : (x : ℕ) → T (processor_byte x) → T (not_colon x)
processor-not_colon = avoids (code ":") processor_byte colon_no_processor

pub field-not_colon : (x : ℕ) → T (field_byte x) → T (not_colon x)
field-not_colon x t = processor-not_colon x (field-processor x t)

-- a field has the bytes of a processor, and a processor no ':'
pub as_processor : (f : List ℕ) → T (every field_byte f) → T (every processor_byte f)
as_processor = every_imp field_byte processor_byte field-processor

pub processor_plain : (p : List ℕ) → T (every processor_byte p) → T (every not_colon p)
processor_plain = every_imp processor_byte not_colon processor-not_colon

name_field : (x : ℕ) → T (name_byte x) → T (field_byte x)
unfolding field_byte
name_field x t = search (or_l)

pub any-holds : (q : List ℕ → Bool) (k : List ℕ) (l : List (List ℕ)) → T (any (same k) l) → T (every q l) → T (q k)
unfolding any every
any-holds q k [] s t = absurd s
any-holds q k (x ∷ l) s t = elim (or_t (same k x) (any (same k) l) s) [
  | inl u ↦ subst (λ y. T (q y)) (sym (same_eq k x u)) (and_l (q x) (every q l) t)
  | inr u ↦ any-holds q k l u (and_r (q x) (every q l) t)
]

pub kind-bytes : (k : List ℕ) → T (any (same k) kinds) → T (every field_byte k)
unfolding kinds every field_byte name_byte
kind-bytes k t = any-holds (every field_byte) k kinds t tt

pub shaped-bytes : (p : List ℕ) → T (processor_shaped p) → T (every processor_byte p)
unfolding processor_shaped
shaped-bytes p t = search (and_l, and_r)

-- the fields before the processor
unfoldable pub five_fields : Meaning → List (List ℕ)
five_fields m = m.kind ∷ m.arch ∷ m.vendor ∷ m.system ∷ m.environment ∷ []

-- what makes a text that is written readable
pub record Plain (m : Meaning) : Type 0 where
  pub all_fields : T (every (every field_byte) (five_fields m))
  pub environment_plain : names_processor m.environment ≡ false
  pub processor_bytes : T (every processor_byte m.processor)
  pub all_named : T (every named m.features)
  pub in_order : T (rising_by by_name m.features)

pub plain : (m : Meaning) → Proper m → names_processor m.environment ≡ false → Plain m
unfolding every five_fields
plain m h e = record {
  all_fields = and_t (every field_byte m.kind) _ (kind-bytes m.kind h.kind_in) h.field_bytes_lem;
  environment_plain = e;
  processor_bytes = shaped-bytes m.processor h.processor_shaped_lem;
  all_named = h.all_named;
  in_order = h.in_order;
}

-- no environment that is read begins like a processor
pub environment_plain : (x : List ℕ) → names_processor (meaning x).environment ≡ false
unfolding meaning meaning_of fifth_is_processor names_processor same
environment_plain x =
    let f = get_or (fields_of x) 4 [] in
    cond_case (λ e. names_processor e ≡ false) (names_processor f) [] f (λ t. refl) (λ n. is_false (names_processor f) n)

join_every : (c : ℕ) (p : ℕ → Bool) → T (p c) → (fs : List (List ℕ)) → T (every (every p) fs) → T (every p (join_with c fs))
unfolding every join_with
join_every c p s [] t = tt
join_every c p s (f ∷ []) t = and_l (every p f) true t
join_every c p s (f ∷ g ∷ fs) t =
    every_append p f (c ∷ join_with c (g ∷ fs)) (and_l (every p f) (every (every p) (g ∷ fs)) t)
    (and_t (p c) (every p (join_with c (g ∷ fs))) s (join_every c p s (g ∷ fs) (and_r (every p f) (every (every p) (g ∷ fs)) t)))

-- fields, and one that may hold hyphens
pub join_not_colon : (fs : List (List ℕ)) (p : List ℕ) → T (every (every field_byte) fs) → T (every not_colon p) → T (every not_colon (join_with (code "-") (fs ++ p ∷ [])))
unfolding other_than every
join_not_colon fs p f c =
    join_every (code "-") not_colon tt (fs ++ p ∷ [])
    (every_append (every not_colon) fs (p ∷ [])
    (every_imp (every field_byte) (every not_colon) (every_imp field_byte not_colon field-not_colon) fs f)
    (and_t (every not_colon p) true c tt))

sign-not_colon : (b : Bool) → T (every not_colon (sign b ∷ []))
unfolding sign every other_than
sign-not_colon true = tt
sign-not_colon false = tt

piece-not_colon : (f : Feature) → T (named f) → T (every not_colon (piece f))
unfolding piece named
piece-not_colon f t =
    every_append not_colon f.name (sign f.on ∷ [])
    (every_imp name_byte not_colon (λ x u. field-not_colon x (name_field x u)) f.name (and_r (not (empty f.name)) (every name_byte f.name) t))
    (sign-not_colon f.on)

pieces_not_colon : (fs : List Feature) → T (every named fs) → T (every (every not_colon) (map piece fs))
unfolding every
pieces_not_colon [] t = tt
pieces_not_colon (f ∷ fs) t = and_t (every not_colon (piece f)) _ (piece-not_colon f (and_l (named f) (every named fs) t)) (pieces_not_colon fs (and_r (named f) (every named fs) t))

-- ---- the text that is written

length_join : (c : ℕ) (f : List ℕ) (fs : List (List ℕ)) → length f ≤ length (join_with c (f ∷ fs))
unfolding join_with
length_join c f [] = omega arith
length_join c f (g ∷ fs) = omega (arith, length-append f (c ∷ join_with c (g ∷ fs)))

-- six fields out of those that a head is cut into: the sixth runs on
unfoldable pub six_of_lem : List (List ℕ) → List (List ℕ)
six_of_lem fs = take 5 fs ++ join_with (code "-") (drop 5 fs) ∷ []

main : Meaning → List ℕ
main m = join_with (code "-") (six_fields m)

pub write_some : (m : Meaning) → 1 ≤ length (canonical_of m)
unfolding canonical_of six_fields join_with
write_some m =
    omega (arith, length_join (code ":") (join_with (code "-") (six_fields m)) (map piece m.features), length-append m.kind (code "-" ∷ join_with (code "-") (m.arch ∷ m.vendor ∷ m.system ∷ m.environment ∷ m.processor ∷ [])))

module _ (m : Meaning) (h : Plain m) where
  main_not_colon : T (every not_colon (main m))
  unfolding main six_fields five_fields
  main_not_colon = join_not_colon (five_fields m) m.processor h.all_fields (processor_plain m.processor h.processor_bytes)

  -- kind, triple and processor hold no ':'
  pub head_not_colon : T (every not_colon (join_with (code "-") (six_fields m)))
  unfolding main
  head_not_colon = main_not_colon

  cut : split_on (code ":") (canonical_of m) ≡ main m ∷ map piece m.features
  unfolding canonical_of main every
  cut = split_join (code ":") not_colon no_colon (main m) (map piece m.features) (and_t (every not_colon (main m)) _ main_not_colon (pieces_not_colon m.features h.all_named))

  -- the canonical form's head, cut: the processor is cut too
  head_cut : split_on (code "-") (join_with (code "-") (six_fields m)) ≡ five_fields m ++ split_on (code "-") m.processor
  unfolding six_fields five_fields
  head_cut = split_join_last (code "-") field_byte no_dash (five_fields m) m.processor h.all_fields

  -- the six fields, out of it
  pub six_back : six_of_lem (split_on (code "-") (join_with (code "-") (six_fields m))) ≡ six_fields m
  unfolding six_of_lem six_fields five_fields
  six_back = rw head_cut (ap (λ p. five_fields m ++ p ∷ []) (join_split (code "-") m.processor))

  -- what stands before the first ':' of the canonical form
  pub head_write : get_or (split_on (code ":") (canonical_of m)) 0 [] ≡ join_with (code "-") (six_fields m)
  unfolding main
  head_write = rw cut

  fields_back : fields_of (canonical_of m) ≡ five_fields m ++ split_on (code "-") m.processor
  unfolding fields_of main
  fields_back = rw cut head_cut

  pub pieces_back : pieces_of (canonical_of m) ≡ map piece m.features
  unfolding pieces_of
  pieces_back = rw cut

  features_back : sort_by by_name (map feature (map piece m.features)) ≡ m.features
  features_back = rw (features_pieces m.features) (sort_rising by_name m.features h.in_order)

  pub meaning-write : meaning (canonical_of m) ≡ m
  unfolding meaning meaning_of five_fields fifth_is_processor
  meaning-write =
      rw (fields_back, pieces_back, h.environment_plain)
      (λ i. record {
        kind = m.kind;
        arch = m.arch;
        vendor = m.vendor;
        system = m.system;
        environment = m.environment;
        processor = join_split (code "-") m.processor i;
        features = features_back i;
      })

  least_fields : 4 ≤ length (fields_of (canonical_of m))
  unfolding five_fields
  least_fields = rw fields_back (omega arith)

  shaped-write : T (leb (length (canonical_of m)) 256) → T (shaped (canonical_of m))
  unfolding shaped
  shaped-write fits =
      let some : T (leb 1 (length (canonical_of m))) = le→leb 1 (length (canonical_of m)) (write_some m) in
      let least : T (leb 4 (length (fields_of (canonical_of m)))) = le→leb 4 (length (fields_of (canonical_of m))) least_fields in
      let signs : T (every signed (pieces_of (canonical_of m))) = rw pieces_back (all_signed m.features) in
      search and_t

  pub valid-write : T (proper m) → T (valid (canonical_of m))
  unfolding valid
  valid-write t = and_t (shaped (canonical_of m)) (proper (meaning (canonical_of m))) (shaped-write (parts m t).fits) (rw meaning-write t)

-- ---- reading back, and one text for each meaning, by any reading

-- A reading says which texts are IDs and what they mean. Its canonical forms are written from the meanings, and read back as they are meant.
pub record ReadsBack (right : List ℕ → Bool) (mean : List ℕ → Meaning) (form : List ℕ → List ℕ) : Type 0 where
  pub form_of : (x : List ℕ) → form x ≡ cond (right x) (canonical_of (mean x)) []
  pub right_again : (x : List ℕ) → T (right x) → T (right (canonical_of (mean x)))
  pub mean_again : (x : List ℕ) → T (right x) → mean (canonical_of (mean x)) ≡ mean x
  pub none : form [] ≡ []

module _ (right : List ℕ → Bool) (mean : List ℕ → Meaning) (form : List ℕ → List ℕ) (b : ReadsBack right mean form) where
  module _ (x : List ℕ) (v : T (right x)) where
    pub form_is : form x ≡ canonical_of (mean x)
    form_is = b.form_of x ∙ ap (λ c. cond c (canonical_of (mean x)) []) (is_true (right x) v)

    pub form-meaning : mean (form x) ≡ mean x
    form-meaning = rw form_is (b.mean_again x v)

    pub form-right : T (right (form x))
    form-right = rw form_is (b.right_again x v)

  pub form-refused : (x : List ℕ) → right x ≡ false → form x ≡ []
  form-refused x e = b.form_of x ∙ ap (λ c. cond c (canonical_of (mean x)) []) e

  pub form_again : (x : List ℕ) → form (form x) ≡ form x
  form_again x = elim (cases (right x)) [
    | inl e ↦ let v = of_true (right x) e in form_is (form x) (form-right x v) ∙ ap canonical_of (form-meaning x v) ∙ sym (form_is x v)
    | inr e ↦ let r = form-refused x e in rw r b.none
  ]

  pub one_form : (x y : List ℕ) → T (right x) → T (right y) → (form x ≡ form y) ↔ (mean x ≡ mean y)
  one_form x y s t =
      ((λ e. sym (form-meaning x s) ∙ ap mean e ∙ form-meaning y t), (λ e. form_is x s ∙ ap canonical_of e ∙ sym (form_is y t)))

-- ---- by the general reading

module _ (x : List ℕ) (v : T (valid x)) where
  pub proper-meaning : T (proper (meaning x))
  unfolding valid
  proper-meaning = and_r (shaped x) (proper (meaning x)) v

  pub plain_meaning : Plain (meaning x)
  plain_meaning = plain (meaning x) (parts (meaning x) proper-meaning) (environment_plain x)

  pub read_back : meaning (canonical_of (meaning x)) ≡ meaning x
  read_back = meaning-write (meaning x) plain_meaning

pub canon_back : ReadsBack valid meaning canon
unfolding canon valid shaped
canon_back = record {
  form_of = λ x. refl;
  right_again = λ x v. valid-write (meaning x) (plain_meaning x v) (proper-meaning x v);
  mean_again = read_back;
  none = refl;
}

pub canon_is : (x : List ℕ) → T (valid x) → canon x ≡ canonical_of (meaning x)
canon_is = form_is valid meaning canon canon_back

pub canon-meaning : (x : List ℕ) → T (valid x) → meaning (canon x) ≡ meaning x
canon-meaning = form-meaning valid meaning canon canon_back

pub canon-valid : (x : List ℕ) → T (valid x) → T (valid (canon x))
canon-valid = form-right valid meaning canon canon_back

pub canon-refused : (x : List ℕ) → valid x ≡ false → canon x ≡ []
canon-refused = form-refused valid meaning canon canon_back

pub canon_again : (x : List ℕ) → canon (canon x) ≡ canon x
canon_again = form_again valid meaning canon canon_back

pub same-canon : (x y : List ℕ) → T (valid x) → T (valid y) → (canon x ≡ canon y) ↔ (meaning x ≡ meaning y)
same-canon = one_form valid meaning canon canon_back

pub canon-size : (x : List ℕ) → T (valid x) → (1 ≤ length (canon x)) × (length (canon x) ≤ 256)
canon-size x v = rw (canon_is x v) (write_some (meaning x), leb→le (length (canonical_of (meaning x))) 256 (parts (meaning x) (proper-meaning x v)).fits)
