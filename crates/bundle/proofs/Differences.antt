-- What holds of the differences of two bundles and of the report on them. Assumes nothing.
use Prim.Native.Nat.{ℕ, ◌+◌, ◌≤◌}
use native.Mathlib.Omega.{arith}
use Prim.Native.Char.{code}
use mathlib.Core.Path.{◌≡◌, refl, sym, ap, ap₂, ◌∙◌, subst}
use mathlib.Core.Logic.{◌⊎◌, inl, inr}
use mathlib.Core.Bool.{Bool}
use mathlib.Core.List.Memᴰ
use mathlib.Core.List.{List, [], ◌∷◌, ◌++◌, Memᴰ}
use lib.Dec.{T}
use lib.ListN.{length, drop}
use borrow.Author.Tests.{eqb-false}
use Rattle.wire.specs.Bytes.{same, common, overwrite}
use Rattle.wire.specs.Order.{distinct_by}
use Rattle.wire.specs.Stop.{over}
use Rattle.wire.proofs.Bools.{by_bool, by_lt, clash}
use Rattle.wire.proofs.ByteLaws.{same_true, eq_same, common-within, common-apart, common_get}
use Rattle.wire.proofs.OverwriteLaws.{overwrite_in, overwrite-not}
use Rattle.wire.proofs.SortLaws.{distinct-one}
use Rattle.entry_id.specs.Meaning.{Meaning, meaning}
use Rattle.entry_id.specs.IdRules.{IdRules, Lawful}
use Rattle.entry_id.specs.Reads.{Reads}
use Rattle.entry_id.specs.Rules.{id_rules}
use Rattle.entry_id.proofs.RuleLaws.{id_rules-reads, id_rules_lawful}
use Rattle.bundle.specs.Check.{check}
use Rattle.bundle.specs.Entry.{Entry, entries}
use Rattle.bundle.specs.Normal.{by_id}
use Rattle.bundle.specs.Accepted.{Accepted}
use Rattle.bundle.specs.Differences.{Difference, only_left, only_right, other_image, differences, report, reported}
use Rattle.bundle.specs.DifferenceTheorems.{DifferAt, Has, Other, LinesExact, DifferencesExact, CompareTheorems}
use Rattle.bundle.proofs.NormalLaws.{accepted_writable}
use Rattle.bundle.proofs.Demand.{same_entries, entries-same}
use Rattle.bundle.proofs.Theorems.{check_exact}
use Rattle.bundle.proofs.DecimalLaws.{decimal_exact}
use Rattle.bundle.proofs.DifferenceLaws.{NoId, Case, in_left, in_right, in_both, Exact, found, Found, absent, present, exact_of}
use Rattle.bundle.proofs.ReportLaws.{long-number, short-number, left_refused, right_refused, compared, report-fits}

-- ---- the first byte at which images differ

pub differ_at : (x y : List ℕ) → DifferAt x y (common x y)
differ_at x y = record {
  left = (common-within x y).0;
  right = (common-within x y).1;
  agree = λ i h. common_get x y i h;
  end = λ p q e. eqb-false _ _ (common-apart x y p q) e;
}

-- there is one only
one_place : (x y : List ℕ) (n m : ℕ) → DifferAt x y n → DifferAt x y m → n ≡ m
one_place x y n m p q =
    by_lt n m
    (λ l. absurd (p.end (omega (arith, q.left, l)) (omega (arith, q.right, l)) (q.agree n l)))
    (λ g. by_lt m n
    (λ l. absurd (q.end (omega (arith, p.left, l)) (omega (arith, p.right, l)) (p.agree m l)))
    (λ h. omega (arith, g, h)))

-- ---- of two lists of entries

-- no difference: each entry of the one is one of the other
module _ (es fs : List Entry) (none : (d : Difference) → Case es fs d → ⊥) where
  one_entry : (e f : Entry) → Memᴰ e es → Memᴰ f fs → e.id ≡ f.id → e ≡ f
  one_entry e f m n i =
      by_bool (same e.image f.image)
      (λ t. let q : e.image ≡ f.image = same_true e.image f.image t in λ j. record { id = i j; image = q j })
      (λ u. absurd (none (other_image e f) (in_both e f m n i (λ q. clash _ (eq_same e.image f.image q) u) refl)))

  none_right : (e : Entry) → Memᴰ e es → Memᴰ e fs
  none_right e m = there (found e.id fs)
    where
      there : Found e.id fs → Memᴰ e fs
      there (absent p n) = absurd (none (only_left e) (in_left e m n refl))
      there (present f rest p n i) = rw (one_entry e f m n (sym i)) n

  none_left : (f : Entry) → Memᴰ f fs → Memᴰ f es
  none_left f n = there (found f.id es)
    where
      there : Found f.id es → Memᴰ f es
      there (absent p k) = absurd (none (only_right f) (in_right f n k refl))
      there (present e rest p m i) = rw (sym (one_entry e f m n i)) m

-- each entry of the one is one of the other: no difference
held_none : (es fs : List Entry) → T (distinct_by by_id fs) → ((e : Entry) → Memᴰ e es → Memᴰ e fs) → ((f : Entry) → Memᴰ f fs → Memᴰ f es)
    → (d : Difference) → Case es fs d → ⊥
held_none es fs t h g d (in_left e m n q) = n e (h e m) refl
held_none es fs t h g d (in_right f m n q) = n f (g f m) refl
held_none es fs t h g d (in_both e f m n i u q) = u (ap (λ k. k.image) (distinct-one by_id fs t e f (h e m) n i))

no_member : {A : Type 0} (l : List A) → length l ≡ 0 → (x : A) → Memᴰ x l → ⊥
no_member [] e x m = Memᴰ.not-nil m
no_member (y ∷ l) e x m = absurd (omega (arith, e))

member_none : {A : Type 0} (l : List A) → ((x : A) → Memᴰ x l → ⊥) → length l ≡ 0
member_none [] n = refl
member_none (x ∷ l) n = absurd (n x (Memᴰ.head refl))

-- ---- of two bundles

-- the letter of a difference decides its case
apart_letters : {C : Type 0} (c d : Difference) → c ≡ d → (c.letter ≡ d.letter → ⊥) → C
apart_letters c d e n = absurd (n (ap (λ k. k.letter) e))

module _ (R : IdRules) (a b : List ℕ) (x : Exact (entries R a) (entries R b) (differences R a b)) where
  has : (s : List ℕ) (e : Entry) (i : List ℕ) → Memᴰ e (entries R s) → i ≡ e.id → Has R s i
  has s e i m q = record { entry = e; there = m; named = sym q }

  none_has : (s i : List ℕ) → NoId i (entries R s) → Has R s i → ⊥
  none_has s i n h = n h.entry h.there h.named

  has-none : (s i : List ℕ) → (Has R s i → ⊥) → NoId i (entries R s)
  has-none s i n e m q = n (has s e i m (sym q))

  abbrev Said : Difference → Type 0
  Said = Case (entries R a) (entries R b)

  case_left : (i : List ℕ) → Said (record { letter = code "L"; id = i; at = 0 }) → Has R a i × (Has R b i → ⊥)
  case_left i (in_left e m n q) = let y : i ≡ e.id = ap (λ d. d.id) q in (has a e i m y, none_has b i (subst (λ k. NoId k (entries R b)) (sym y) n))
  case_left i (in_right f m n q) = apart_letters _ _ q (λ e. omega (arith, e))
  case_left i (in_both e f m n j u q) = apart_letters _ _ q (λ e. omega (arith, e))

  left_case : (i : List ℕ) → Has R a i × (Has R b i → ⊥) → Said (record { letter = code "L"; id = i; at = 0 })
  left_case i h =
      in_left h.0.entry h.0.there (subst (λ k. NoId k (entries R b)) (sym h.0.named) (has-none b i h.1))
      (ap (λ k. record { letter = code "L"; id = k; at = 0 }) (sym h.0.named))

  case_right : (i : List ℕ) → Said (record { letter = code "R"; id = i; at = 0 }) → Has R b i × (Has R a i → ⊥)
  case_right i (in_left e m n q) = apart_letters _ _ q (λ e. omega (arith, e))
  case_right i (in_right f m n q) = let y : i ≡ f.id = ap (λ d. d.id) q in (has b f i m y, none_has a i (subst (λ k. NoId k (entries R a)) (sym y) n))
  case_right i (in_both e f m n j u q) = apart_letters _ _ q (λ e. omega (arith, e))

  right_case : (i : List ℕ) → Has R b i × (Has R a i → ⊥) → Said (record { letter = code "R"; id = i; at = 0 })
  right_case i h =
      in_right h.0.entry h.0.there (subst (λ k. NoId k (entries R a)) (sym h.0.named) (has-none a i h.1))
      (ap (λ k. record { letter = code "R"; id = k; at = 0 }) (sym h.0.named))

  case_other : (i : List ℕ) (n : ℕ) → Said (record { letter = code "D"; id = i; at = n }) → Other R a b i n
  unfolding has
  case_other i n (in_left e m k q) = apart_letters _ _ q (λ e. omega (arith, e))
  case_other i n (in_right f m k q) = apart_letters _ _ q (λ e. omega (arith, e))
  case_other i n (in_both e f m k j u q) =
      let y : i ≡ e.id = ap (λ d. d.id) q in
      let z : n ≡ common e.image f.image = ap (λ d. d.at) q in
      record { left = has a e i m y; right = has b f i k (y ∙ j); unlike = u; first = subst (λ v. DifferAt e.image f.image v) (sym z) (differ_at e.image f.image) }

  other_case : (i : List ℕ) (n : ℕ) → Other R a b i n → Said (record { letter = code "D"; id = i; at = n })
  other_case i n o =
      let e = o.left.entry in
      let f = o.right.entry in
      let z : n ≡ common e.image f.image = one_place e.image f.image n (common e.image f.image) o.first (differ_at e.image f.image) in
      in_both e f o.left.there o.right.there (o.left.named ∙ sym o.right.named) o.unlike (λ j. record { letter = code "D"; id = sym o.left.named j; at = z j })

  case_letter : (d : Difference) → Said d
      → (d ≡ record { letter = code "L"; id = d.id; at = 0 }) ⊎ ((d ≡ record { letter = code "R"; id = d.id; at = 0 }) ⊎ (d ≡ record { letter = code "D"; id = d.id; at = d.at }))
  case_letter d (in_left e m n q) = inl (q ∙ ap (λ i. record { letter = code "L"; id = i; at = 0 }) (sym (ap (λ k. k.id) q)))
  case_letter d (in_right f m n q) = inr (inl (q ∙ ap (λ i. record { letter = code "R"; id = i; at = 0 }) (sym (ap (λ k. k.id) q))))
  case_letter d (in_both e f m n j u q) = inr (inr (q ∙ ap₂ (λ i v. record { letter = code "D"; id = i; at = v }) (sym (ap (λ k. k.id) q)) (sym (ap (λ k. k.at) q))))

  lines_exact : LinesExact R a b
  lines_exact = record {
    only_left_lem = λ i. ((λ m. case_left i (x.says _ m)), (λ h. x.said _ (left_case i h)));
    only_right_lem = λ i. ((λ m. case_right i (x.says _ m)), (λ h. x.said _ (right_case i h)));
    other_image_lem = λ i n. ((λ m. case_other i n (x.says _ m)), (λ h. x.said _ (other_case i n h)));
    no_other = λ d m. case_letter d (x.says d m);
    rising = x.rising;
  }

-- ---- the output

written_over : (src out : List ℕ) → length src ≤ length out → overwrite out 0 src ≡ over src out
unfolding over
written_over src out h = overwrite_in out 0 src (omega (arith, h)) ∙ ap (λ n. src ++ drop n out) (let e : 0 + length src ≡ length src = omega arith in e)

-- ---- by any reading

module _ {R : IdRules} {valid : List ℕ → Bool} {mean : List ℕ → Meaning} (Q : Reads R valid mean) (L : Lawful R) where
  module _ (a b : List ℕ) (p : Accepted R a) (q : Accepted R b) where
    abbrev fs : List Entry
    fs = entries R b

    distinct-right : T (distinct_by by_id fs)
    distinct-right = (accepted_writable R L b q).distinct

    all : Exact (entries R a) fs (differences R a b)
    unfolding differences
    all = exact_of (entries R a) fs (accepted_writable R L a p).distinct distinct-right

    accepted-differences : DifferencesExact R mean a b
    accepted-differences = record {
      none = (
        (λ e.
            let n : (d : Difference) → Case (entries R a) fs d → ⊥ = λ d c. no_member (differences R a b) e d (all.said d c) in
            same_entries Q a b p q (none_right (entries R a) fs n) (none_left (entries R a) fs n)),
        (λ s. let h = entries-same Q a b p q s in member_none (differences R a b) (λ d m. held_none (entries R a) fs distinct-right h.0 h.1 d (all.says d m))),
      );
      lines = lines_exact R a b all;
    }

  pub compare_of : CompareTheorems R mean
  unfolding check reported
  compare_of = record {
    differences_exact = λ a b u v. accepted-differences a b ((check_exact R a).accepted.0 u) ((check_exact R b).accepted.0 v);
    decimal_exact = decimal_exact;
    input_exact = λ s. record { long = long-number R s; short = short-number R s };
    report_exact = λ a b. record {
      left_refused = left_refused R a b;
      right_refused = right_refused R a b;
      compared = compared R a b;
      fits = report-fits R L a b;
      written = written_over (report R a b);
      unwritten = λ out h. overwrite-not out 0 (report R a b) (omega (arith, h));
    };
  }

-- by the rules that the calls go by
pub compare_theorems : CompareTheorems id_rules meaning
compare_theorems = compare_of id_rules-reads id_rules_lawful
