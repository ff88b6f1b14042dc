-- The table of processors, by one test that is computed over it whole. Assumes nothing.
use Prim.Native.Nat.{ℕ}
use mathlib.Core.Path.{◌≡◌, refl, sym, ap, ◌∙◌, subst}
use mathlib.Core.Logic.{◌⊎◌, inl, inr}
use mathlib.Core.Bool.{Bool, true, not, ◌||◌}
use mathlib.Core.List.{List, [], ◌∷◌, ◌++◌}
use lib.Dec.{T}
use Rattle.wire.specs.Lists.{any, every}
use Rattle.wire.specs.Bytes.{same}
use Rattle.wire.specs.Order.{distinct_by}
use Rattle.wire.proofs.Bools.{clash, and_l, and_r, or_t, or_l, or_r, is_true, of_true, not_t, cond_ind, cond_case}
use Rattle.wire.proofs.ByteLaws.{same_eq}
use Rattle.entry_id.specs.Meaning.{names_processor, name_byte, field_byte}
use Rattle.entry_id.specs.Processors.{Processor, processors, names, stands, all_names, primary_in, sixth_name, sound_table}
use Rattle.entry_id.specs.Profile.{primary_of}
use Rattle.entry_id.specs.Theorems.{ProcessorTable}
use Rattle.entry_id.proofs.TextLaws.{any_append}
use Rattle.entry_id.proofs.ReadBack.{any-holds}

sound : sound_table processors ≡ true
unfolding sound_table distinct_by all_names processors names stands primary_in sixth_name names_processor field_byte name_byte any every same
sound = refl

-- its three parts
record Sound : Type 0 where
  once : T (distinct_by (λ n. n) (all_names processors))
  own : T (every (λ r. same (primary_in processors r.primary) r.primary) processors)
  sixth : T (every (λ r. every sixth_name r.others) processors)

parts_sound : Sound
unfolding sound_table
parts_sound = let t = of_true (sound_table processors) sound in search (and_l, and_r)

-- ---- a name stands on one row

-- a name stands on some row exactly if it is among all names
pub any-names : (n : List ℕ) (rs : List Processor) → any (stands n) rs ≡ any (same n) (all_names rs)
unfolding any all_names stands
any-names n [] = refl
any-names n (r ∷ rs) = ap (λ c. any (same n) (names r) || c) (any-names n rs) ∙ sym (any_append (same n) (names r) (all_names rs))

module _ (m : List (List ℕ)) where
  -- what is distinct has no text in its first part and in the rest
  distinct_apart : (l : List (List ℕ)) (n : List ℕ) → T (distinct_by (λ n. n) (l ++ m)) → T (any (same n) l) → T (any (same n) m) → ⊥
  unfolding distinct_by any
  distinct_apart [] n d t u = t
  distinct_apart (x ∷ l) n d t u = elim (or_t (same n x) (any (same n) l) t) [
    | inl e ↦
        let o = or_r (any (same x) l) (any (same x) m) (subst (λ y. T (any (same y) m)) (same_eq n x e) u) in
        clash (any (same x) (l ++ m)) (any_append (same x) l m ∙ is_true _ o) (not_t (any (same x) (l ++ m)) (and_l (not (any (same x) (l ++ m))) (distinct_by (λ n. n) (l ++ m)) d))
    | inr v ↦ distinct_apart l n (and_r (not (any (same x) (l ++ m))) (distinct_by (λ n. n) (l ++ m)) d) v u
  ]

  distinct_rest : (l : List (List ℕ)) → T (distinct_by (λ n. n) (l ++ m)) → T (distinct_by (λ n. n) m)
  unfolding distinct_by
  distinct_rest [] d = d
  distinct_rest (x ∷ l) d = distinct_rest l (and_r (not (any (same x) (l ++ m))) (distinct_by (λ n. n) (l ++ m)) d)

-- a name on a row is among all names
stands_in : (a b : List Processor) (r : Processor) (n : List ℕ) → T (stands n r) → T (any (same n) (all_names (a ++ r ∷ b)))
unfolding any
stands_in a b r n t = of_true _ (sym (any-names n (a ++ r ∷ b)) ∙ any_append (stands n) a (r ∷ b) ∙ is_true _ (or_r (any (stands n) a) _ (or_l (stands n r) (any (stands n) b) t)))

rows_apart : (a b c : List Processor) (r s : Processor) (n : List ℕ) → T (distinct_by (λ n. n) (all_names (a ++ r ∷ b ++ s ∷ c))) → T (stands n r) → T (stands n s) → ⊥
unfolding all_names stands
rows_apart [] b c r s n d t u = distinct_apart (all_names (b ++ s ∷ c)) (names r) n d t (stands_in b c s n u)
rows_apart (q ∷ a) b c r s n d t u = rows_apart a b c r s n (distinct_rest (all_names (a ++ r ∷ b ++ s ∷ c)) (names q) d) t u

primary_on : (a b : List Processor) (r : Processor) (n : List ℕ) → T (distinct_by (λ n. n) (all_names (a ++ r ∷ b))) → T (stands n r) → primary_in (a ++ r ∷ b) n ≡ r.primary
unfolding primary_in all_names
primary_on [] b r n d t = rw (is_true (stands n r) t)
primary_on (q ∷ a) b r n d t =
    cond_case (λ p. p ≡ r.primary) (stands n q) q.primary (primary_in (a ++ r ∷ b) n)
    (λ u. absurd (unfold stands in distinct_apart (all_names (a ++ r ∷ b)) (names q) n d u (stands_in a b r n t)))
    (λ _. primary_on a b r n (distinct_rest (all_names (a ++ r ∷ b)) (names q) d) t)

-- ---- primaries and alternatives

-- a test that all primaries pass
primary_cases : (q : List ℕ → Bool) (rs : List Processor) (n : List ℕ) → T (every (λ r. q r.primary) rs) → (primary_in rs n ≡ n) ⊎ T (q (primary_in rs n))
unfolding primary_in every
primary_cases q [] n t = inl refl
primary_cases q (r ∷ rs) n t =
    cond_ind (λ p. (p ≡ n) ⊎ T (q p)) (stands n r) r.primary (primary_in rs n)
    (inr (and_l (q r.primary) (every (λ s. q s.primary) rs) t)) (primary_cases q rs n (and_r (q r.primary) (every (λ s. q s.primary) rs) t))

pub primary_twice : (n : List ℕ) → primary_of (primary_of n) ≡ primary_of n
unfolding primary_of
primary_twice n = elim (primary_cases (λ y. same (primary_in processors y) y) processors n parts_sound.own) [
  | inl e ↦ ap (primary_in processors) e
  | inr u ↦ same_eq (primary_of (primary_of n)) (primary_of n) u
]

-- a name that is not its own primary is an alternative
other_cases : (q : List ℕ → Bool) (rs : List Processor) (n : List ℕ) → T (every (λ r. every q r.others) rs) → (primary_in rs n ≡ n) ⊎ T (q n)
unfolding primary_in every stands names any
other_cases q [] n t = inl refl
other_cases q (r ∷ rs) n t =
    cond_case (λ p. (p ≡ n) ⊎ T (q n)) (stands n r) r.primary (primary_in rs n)
    (λ u. elim (or_t (same n r.primary) (any (same n) r.others) u) [
      | inl v ↦ inl (sym (same_eq n r.primary v))
      | inr v ↦ inr (any-holds q n r.others v (and_l (every q r.others) (every (λ s. every q s.others) rs) t))
    ])
    (λ _. other_cases q rs n (and_r (every q r.others) (every (λ s. every q s.others) rs) t))

pub primary_or_sixth : (n : List ℕ) → (primary_of n ≡ n) ⊎ T (sixth_name n)
unfolding primary_of
primary_or_sixth n = other_cases sixth_name processors n parts_sound.sixth

pub processor_table : ProcessorTable
unfolding primary_of
processor_table = record {
  sound = sound;
  once = λ a b c r s n e. rows_apart a b c r s n (subst (λ rs. T (distinct_by (λ n. n) (all_names rs))) e parts_sound.once);
  means = λ a b r n e t. ap (λ rs. primary_in rs n) e ∙ primary_on a b r n (subst (λ rs. T (distinct_by (λ n. n) (all_names rs))) e parts_sound.once) t;
  primary_stays = primary_twice;
}
