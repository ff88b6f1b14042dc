-- What `examine` and `examine_records` promise: the answer, and the scratch that they are lent; and what `pick_in_turn` promises. Definitions only.
use Rattle.std.specs.Prelude.{ℕ, zero, suc, ◌+◌, ◌≡◌, cond, List, [], Result, Ok, Err, IfOk, eqb, ltb, length, get_or, set, replicate}
use Rattle.wire.specs.Bytes.{empty}
use Rattle.wire.specs.First.{first}
use Rattle.wire.specs.Stop.{Stop, stop, ◌⨾◌, stop_if, stop_at, unrefused}
use Rattle.wire.specs.Word.{word}
use Rattle.entry_id.specs.IdRules.{IdRules}
use Rattle.bundle.specs.Table.{Row, count, row_start, row}
use Rattle.bundle.specs.Check.{bad_id, head_stop, table_stop, bundle_stop}
use Rattle.bundle.specs.Pick.{pick}
use Rattle.bundle.specs.Records.{no_record, record_at, rows_of, bad_part, records_stop}
use Rattle.bundle.specs.declared.EntryRecord.{EntryRecord}
use Rattle.bundle.specs.declared.Image.{Image}
use Rattle.bundle.specs.declared.Picked.{Picked}
use Rattle.bundle.specs.declared.PickedInTurn.{PickedInTurn}
use Rattle.bundle.specs.declared.PickedInTurn.TheVariants.{First, Second}
use Rattle.bundle.specs.Results.{picked_of}
use Rattle.wire.specs.Refusals.{stop_of}
use Rattle.wire.specs.declared.Reason.{Reason}
use Rattle.wire.specs.declared.Reason.TheVariants as reasons
use Rattle.wire.specs.declared.Refusal.{Refusal}
use Rattle.bundle_reader.specs.declared.Examined.{Examined}

-- l with f 0 .. f (m - 1) in its first places
unfoldable pub filled : {A : Type 0} → List A → ℕ → (ℕ → A) → List A
filled l zero f = l
filled l (suc m) f = set (filled l m f) m (f m)

-- ---- canonical IDs

-- the canonical ID in place k
abbrev pub id_at : List (List ℕ) → ℕ → List ℕ
id_at ids k = get_or ids k []

-- a canonical form in the place of what was there, which stays where there is none
unfoldable pub taken : List ℕ → List ℕ → List ℕ
taken new old = cond (empty new) old new

-- the canonical form of the ID of row k
unfoldable pub form : IdRules → (ℕ → Row) → ℕ → List ℕ
form R rows k = R.canon (rows k).id

-- how many are made of n rows: none where t refuses them, else those before the first ID that breaks the rules
unfoldable pub made : IdRules → Stop → ℕ → (ℕ → Row) → ℕ
made R t n rows = unrefused t (first n (λ i. bad_id R (rows i)))

-- of a bundle, and of n records with IDs in `ids`
unfoldable pub forms_of : IdRules → List ℕ → ℕ
forms_of R s = made R (head_stop s ⨾ table_stop s) (count s) (row s)

unfoldable pub forms_of_records : IdRules → List ℕ → ℕ → List EntryRecord → ℕ
forms_of_records R ids n records = made R (stop_if 3 (ltb 64 n) ⨾ stop_at 4 n (λ i. bad_part (length ids) (record_at records i))) n (rows_of ids records)

-- ---- rows

-- the row that starts at `at`, as a record: the parts of s that hold its ID and its image
unfoldable pub held_row : List ℕ → ℕ → EntryRecord
held_row s at = record { id_start = at + 24; id_len = word 8 s (at + 16); image_start = word 8 s at; image_len = word 8 s (at + 8) }

-- row k
abbrev pub row_held : List ℕ → ℕ → EntryRecord
row_held s k = held_row s (row_start s k)

-- the first n rows of s, in 64 places
abbrev pub rows_in : List ℕ → ℕ → List EntryRecord
rows_in s n = filled (replicate 64 no_record) n (row_held s)

-- ---- the answers

-- the reason of a number; LENGTH for one that no reason has
unfoldable pub reason_of : ℕ → Reason
reason_of n =
    cond (eqb n 2) reasons.Magic (cond (eqb n 3) reasons.Count (cond (eqb n 4) reasons.Table (cond (eqb n 5) reasons.Id (cond (eqb n 6) reasons.Range
    (cond (eqb n 7) reasons.Twice (cond (eqb n 8) reasons.Mixed (cond (eqb n 9) reasons.Query (cond (eqb n 10) reasons.None (cond (eqb n 11) reasons.Big
    (cond (eqb n 12) reasons.Room (cond (eqb n 13) reasons.Head (cond (eqb n 14) reasons.Span (cond (eqb n 15) reasons.Kind (cond (eqb n 16) reasons.Strings
    (cond (eqb n 17) reasons.Image (cond (eqb n 18) reasons.Many (cond (eqb n 19) reasons.End (cond (eqb n 21) reasons.Overlap (cond (eqb n 23) reasons.Names
    reasons.Length)))))))))))))))))))

-- what a call returns: what refuses it; where nothing does, v
unfoldable pub result_by : {A : Type 0} → Stop → A → Result A Refusal
result_by t v = elim t.number [ zero ↦ Ok v | suc k ↦ Err (record { reason = reason_of (suc k); place = t.place }) ]

-- of a bundle: what refuses it, or its count and rows
unfoldable pub examined : IdRules → List ℕ → Result Examined Refusal
examined R s = result_by (bundle_stop R s) (record { count = count s; rows = rows_in s (count s) })

-- of records, with IDs in `ids` and images in a buffer of `len` bytes: what refuses them
unfoldable pub examined_records : IdRules → List ℕ → ℕ → List EntryRecord → Result (Unit {0}) Refusal
examined_records R ids len records = result_by (records_stop R ids len (length records) records) tt

-- ---- two bundles in turn

-- what a pick returns, by its numbers
unfoldable pub found : Picked → Result Image Refusal
found p = result_by (stop p.number p.place) (record { index = p.index; position = p.position; size = p.size })

-- of two bundles: the pick from the second where the first says NONE; else the pick from the first, and the check of the second
unfoldable pub pick_in_turn : IdRules → List ℕ → List ℕ → List ℕ → PickedInTurn
pick_in_turn R first second device =
    let p = pick R first device in
    cond (eqb p.number 10) (Second (found (pick R second device))) (First (found p) (result_by (bundle_stop R second) (count second)))

-- the same, of its two outcomes
abbrev pub InTurn : IdRules → List ℕ → List ℕ → List ℕ → PickedInTurn → Type 0
InTurn R first second device (Second q) = ((pick R first device).number ≡ 10) × (picked_of q ≡ pick R second device)
InTurn R first second device (First p c) = ((pick R first device).number ≡ 10 → ⊥) × (picked_of p ≡ pick R first device) × (stop_of c ≡ bundle_stop R second) × IfOk c (λ n. n ≡ count second)
