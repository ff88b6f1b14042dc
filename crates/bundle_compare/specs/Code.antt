-- What the code that compares holds between its steps. No public promise rests on this file.
use Rattle.std.specs.Prelude.{ℕ, ◌+◌, ◌≤◌, ◌≡◌, true, Result, Ok, Err, length, take}
use Prim.Native.Char.{code}
use mathlib.Core.List.{List, [], map, Memᴰ}
use Rattle.std.specs.declared.cmp.Ordering.{Ordering}
use Rattle.std.specs.declared.cmp.Ordering.TheVariants.{Less, Equal, Greater}
use Rattle.wire.specs.Bytes.{before, overwrite}
use Rattle.wire.specs.Refusals.{number_of}
use Rattle.wire.specs.declared.Refusal.{Refusal}
use Rattle.entry_id.specs.Rules.{id_rules}
use Rattle.bundle.specs.Differences.{Difference, input_stop}
use Rattle.bundle.specs.Entry.{entries}
use Rattle.bundle.specs.Normal.{by_id}
use Rattle.wire.specs.Order.{sort_by}
use Rattle.normal_form.specs.Code.{values}
use Rattle.normal_form.specs.declared.Entry.{Entry as Held}
use Rattle.bundle_compare.specs.declared.find.Difference.{Difference as Found}
use Rattle.bundle_compare.specs.declared.find.Difference.TheVariants.{OnlyLeft, OnlyRight, Images}

-- ---- differences as the code holds them

abbrev pub no_difference : Found
no_difference = OnlyLeft (record { ref_ptr = (0, 0); now = [] })

abbrev pub shown : Found → Difference
shown (OnlyLeft id) = record { letter = code "L"; id = id.now; at = 0 }
shown (OnlyRight id) = record { letter = code "R"; id = id.now; at = 0 }
shown (Images id at) = record { letter = code "D"; id = id.now; at = at }

abbrev pub shown_all : List Found → List Difference
shown_all ds = map shown ds

-- no ID is too long
abbrev pub ShortIds : List Found → Type 0
ShortIds ds = (d : Found) → Memᴰ d ds → length (shown d).id ≤ 256

-- how two IDs stand
abbrev pub Ordered : List ℕ → List ℕ → Ordering → Type 0
Ordered x y Less = before x y ≡ true
Ordered x y Equal = x ≡ y
Ordered x y Greater = before y x ≡ true

-- ---- a bundle that is read to be compared: its entries in the order of their IDs, in the first places, or what refuses it

pub record Sorted (s : List ℕ) (all : List Held) : Type 0 where
  pub goes : (input_stop id_rules s).number ≡ 0
  pub few : length all ≤ 64
  pub are : values all ≡ sort_by by_id (entries id_rules s)

abbrev pub Reads : List ℕ → Result ℕ Refusal → List Held → Type 0
Reads s (Ok n) all = (n ≤ length all) × Sorted s (take n all)
Reads s (Err r) all = number_of r.reason ≡ (input_stop id_rules s).number

-- ---- text

-- bytes were put to `out` from `at` on, where they fit: the place after them, and the output
pub record Put (out : List ℕ) (at : ℕ) (bytes : List ℕ) (next : ℕ) (after : List ℕ) : Type 0 where
  pub next_is : next ≡ at + length bytes
  pub length_is : length after ≡ length out
  pub bytes_are : at + length bytes ≤ length out → after ≡ overwrite out at bytes
