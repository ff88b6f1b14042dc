-- The packed form is a layout, and its length. Assumes nothing.
use Prim.Native.Nat.{ℕ, zero, suc, ◌+◌, ◌^◌, ◌<◌, ◌≤◌}
use native.Mathlib.Omega.{arith}
use native.Mathlib.Nat.{add_assoc}
use mathlib.Core.Path.{◌≡◌, refl, ap, ◌∙◌}
use mathlib.Core.List.{List, [], ◌∷◌, ◌++◌, append_assoc}
use lib.ListN.{length, get_or, take, drop, length-append}
use lib.Seq.{take_at, drop_at, split_at, take-take, get_or-take, length-take-le}
use Rattle.wire.specs.Lists.{total}
use Rattle.entry_id.specs.IdRules.{IdRules, Lawful}
use Rattle.wire.specs.Limit.{limit}
use Rattle.bundle.specs.Entry.{Entry, no_entry, entries}
use Rattle.bundle.specs.Layout.{packed_end, packed_length, images, packed, encode, no_row, Layout, Writable, ReadsBack}
use Rattle.bundle.proofs.OverlapLaws.{apart-after}
use Rattle.bundle.proofs.ReadBack.{length_layout, layout_entries, layout_reads_back}

pub length-packed : (from : ℕ) (es : List Entry) → length (packed from es) ≡ length es
unfolding packed
length-packed from [] = refl
length-packed from (e ∷ es) = ap suc (length-packed (from + length e.image) es)

pub length-images : (es : List Entry) → length (images es) ≡ total (λ e. length e.image) es
unfolding images total
length-images [] = refl
length-images (e ∷ es) = simp length-append (omega (arith, length-images es))

-- the table, and the images
pub packed_lengths : (es : List Entry) → packed_length es ≡ packed_end es + length (images es)
unfolding packed_length packed_end images total
packed_lengths [] = refl
packed_lengths (e ∷ es) = simp length-append (omega (arith, packed_lengths es))

pub images-append : (a b : List Entry) → images (a ++ b) ≡ images a ++ images b
unfolding images
images-append [] b = refl
images-append (e ∷ a) b = rw (images-append a b, append_assoc)

images-cut : (es : List Entry) (i : ℕ) → i < length es → images es ≡ images (take i es) ++ ((get_or es i no_entry).image ++ images (drop (suc i) es))
unfolding images
images-cut es i h = ap images (split_at es i no_entry h) ∙ images-append (take i es) (get_or es i no_entry ∷ drop (suc i) es)

pub packed_at : (from : ℕ) (es : List Entry) (i : ℕ) → i < length es
    → get_or (packed from es) i no_row ≡ record { offset = from + length (images (take i es)); size = length (get_or es i no_entry).image; id = (get_or es i no_entry).id }
unfolding packed images
packed_at from [] i h = absurd (omega arith)
packed_at from (e ∷ es) zero h = let z : from ≡ from + 0 = omega arith in λ k. record { offset = z k; size = length e.image; id = e.id }
packed_at from (e ∷ es) (suc i) h = packed_at (from + length e.image) es i (omega arith) ∙ simp (length-append, add_assoc)

-- an earlier image ends before a later one starts
images-before : (es : List Entry) (i : ℕ) → i ≤ length es → (j : ℕ) → j < i → length (images (take j es)) + length (get_or es j no_entry).image ≤ length (images (take i es))
images-before es i h j l =
    let hj : j < length (take i es) = omega (arith, length-take-le i es h) in
    let c = simp (length-append, take-take j i es (omega arith), get_or-take i es j no_entry l) at (ap length (images-cut (take i es) j hj)) in
    omega (arith, c)

pub packed_layout : (es : List Entry) → Layout es (packed (packed_end es) es) (images es)
packed_layout es = record {
  one_each = length-packed (packed_end es) es;
  apart = λ i h j l.
      rw (packed_at (packed_end es) es i h, packed_at (packed_end es) es j (omega arith))
      (apart-after _ _ (omega (arith, images-before es i (omega arith) j l)));
  laid = λ i h.
      let img = (get_or es i no_entry).image in
      let c = simp length-append at (ap length (images-cut es i h)) in
      rw (packed_at (packed_end es) es i h)
      (record {
        id = refl;
        size = refl;
        k = length (images (take i es));
        offset = refl;
        within = omega (arith, c);
        image =
            ap (λ b. take (length img) (drop (length (images (take i es))) b)) (images-cut es i h)
            ∙ ap (take (length img)) (drop_at (images (take i es)) (img ++ images (drop (suc i) es)) _ refl)
            ∙ take_at img (images (drop (suc i) es)) (length img) refl;
      });
}

pub length-encode : (es : List Entry) → length (encode es) ≡ packed_length es
unfolding encode
length-encode es = omega (arith, length_layout es _ _ (packed_layout es), packed_lengths es)

pub encode-reads_back : (R : IdRules) → Lawful R → (es : List Entry) → Writable R es → packed_length es ≤ limit → ReadsBack R es (encode es)
unfolding encode
encode-reads_back R L es good within = layout_reads_back R L es _ _ (packed_layout es) good (omega (arith, length_layout es _ _ (packed_layout es), packed_lengths es))

-- the entries read back from a packed form of any length that 8 bytes can say
pub encode-entries : (R : IdRules) → Lawful R → (es : List Entry) → Writable R es → packed_length es < 256 ^ 8 → entries R (encode es) ≡ es
unfolding encode
encode-entries R L es good within = layout_entries es _ _ (packed_layout es) R L good (omega (arith, length_layout es _ _ (packed_layout es), packed_lengths es))
