-- The bytes of lines, as they are put one after another. Assumes nothing.
use Prim.Native.Nat.{ℕ, suc, ◌+◌, ◌<◌, ◌≤◌}
use native.Mathlib.Omega.{arith}
use mathlib.Core.Path.{◌≡◌, refl, sym, ap, ◌∙◌}
use mathlib.Core.Bool.{true, false}
use mathlib.Core.List.{List, [], ◌∷◌, ◌++◌, map, map-append, append-nil, append_assoc}
use lib.Dec.{eqb}
use lib.ListN.{length, get_or, take, length-append}
use lib.Seq.{take-suc, take_all}
use Rattle.wire.specs.Bytes.{bytes}
use Rattle.wire.specs.Lists.{joined}
use Rattle.wire.proofs.Bools.{by_bool}
use Rattle.wire.proofs.ListLaws.{joined-append}
use Rattle.bundle.specs.Differences.{Difference, decimal, line, ended, printed, last_line, difference_lines, refused_line}
use Rattle.bundle.proofs.DecimalLaws.{decimal_most}
use Rattle.bundle_compare.specs.Code.{shown, shown_all, Put}
use Rattle.bundle_compare.specs.declared.find.Difference.{Difference as Found}
use Rattle.bundle_compare.specs.declared.find.Difference.TheVariants.{OnlyLeft, OnlyRight, Images}
use Rattle.std.proofs.Common.{Bor}
use Rattle.bundle_compare.proofs.PutLaws.{put_nothing}

-- ---- the line of a difference

module _ (letter : ℕ) (id : List ℕ) (n : ℕ) where
  pub line_both : eqb letter 68 ≡ true → ((letter ∷ 32 ∷ []) ++ id) ++ (32 ∷ (decimal n ++ (10 ∷ []))) ≡ ended (line (record { letter = letter; id = id; at = n }))
  unfolding line
  line_both t = rw t (ap (λ r. letter ∷ 32 ∷ r) (sym (append_assoc id (32 ∷ decimal n) (10 ∷ []))))

  pub line-alone : eqb letter 68 ≡ false → ((letter ∷ 32 ∷ []) ++ id) ++ (10 ∷ []) ≡ ended (line (record { letter = letter; id = id; at = n }))
  unfolding line
  line-alone f = rw f (ap (λ r. letter ∷ 32 ∷ (r ++ (10 ∷ []))) (sym (append-nil id)))

  -- how long it is at most
  pub line-short : length id ≤ 256 → n < 18446744073709551616 → length (ended (line (record { letter = letter; id = id; at = n }))) ≤ 280
  unfolding line
  line-short h k =
      by_bool (eqb letter 68)
      (λ t. omega (arith, ap length (line_both t), length-append ((letter ∷ 32 ∷ []) ++ id) (32 ∷ (decimal n ++ (10 ∷ []))), length-append (decimal n) (10 ∷ []), h, decimal_most 19 n (omega (arith, k))))
      (λ f. omega (arith, ap length (line-alone f), length-append ((letter ∷ 32 ∷ []) ++ id) (10 ∷ []), h))

module _ (d : Found) (letter : ℕ) (id : List ℕ) where
  pub line_images : (x : Bor (List ℕ)) (n : ℕ) → d ≡ Images x n → letter ≡ (shown d).letter → id ≡ (shown d).id → ((letter ∷ 32 ∷ []) ++ id) ++ (32 ∷ (decimal n ++ (10 ∷ []))) ≡ ended (line (shown d))
  line_images x n e p q = rw (p, q, e) (line_both 68 x.now n refl)

  pub line_alone : ((x : Bor (List ℕ)) (n : ℕ) → d ≡ Images x n → ⊥) → letter ≡ (shown d).letter → id ≡ (shown d).id → ((letter ∷ 32 ∷ []) ++ id) ++ (10 ∷ []) ≡ ended (line (shown d))
  line_alone h p q = rw (p, q) (by d refl)
    where
      by : (k : Found) → d ≡ k → (((shown k).letter ∷ 32 ∷ []) ++ (shown k).id) ++ (10 ∷ []) ≡ ended (line (shown k))
      by (OnlyLeft x) e = line-alone 76 x.now 0 refl
      by (OnlyRight x) e = line-alone 82 x.now 0 refl
      by (Images x n) e = absurd (h x n e)

-- ---- the other lines

pub refused-bytes : (side : List ℕ) (k : ℕ) → (bytes "refused " ++ side) ++ (32 ∷ (decimal k ++ (10 ∷ []))) ≡ printed (refused_line side k ∷ [])
unfolding printed joined refused_line
refused-bytes side k =
    append_assoc (bytes "refused ") side (32 ∷ (decimal k ++ (10 ∷ [])))
    ∙ ap (λ r. bytes "refused " ++ r) (sym (append_assoc side (32 ∷ decimal k) (10 ∷ [])))
    ∙ sym (append_assoc (bytes "refused ") (side ++ (32 ∷ decimal k)) (10 ∷ []))
    ∙ sym (append-nil (ended (bytes "refused " ++ (side ++ (32 ∷ decimal k)))))

pub refused-short : (side : List ℕ) (k : ℕ) → length side ≤ 5 → k < 18446744073709551616 → length (printed (refused_line side k ∷ [])) ≤ 36
refused-short side k h l =
    omega (arith, ap length (refused-bytes side k), length-append (bytes "refused " ++ side) (32 ∷ (decimal k ++ (10 ∷ []))), length-append (bytes "refused ") side, length-append (decimal k) (10 ∷ []), h, decimal_most 19 k (omega (arith, l)))

pub lines-bytes : (ds : List Difference) (n : ℕ) → n ≡ length ds
    → (printed (map line ds) ++ bytes "differences") ++ (32 ∷ (decimal n ++ (10 ∷ []))) ≡ printed (difference_lines ds)
unfolding printed joined difference_lines last_line
lines-bytes ds n e =
    append_assoc (joined ended (map line ds)) (bytes "differences") (32 ∷ (decimal n ++ (10 ∷ [])))
    ∙ ap (λ k. joined ended (map line ds) ++ (bytes "differences" ++ (32 ∷ (decimal k ++ (10 ∷ []))))) e
    ∙ ap (λ r. joined ended (map line ds) ++ r) (sym (append-nil (ended (last_line (length ds)))))
    ∙ sym (joined-append ended (map line ds) (last_line (length ds) ∷ []))

-- ---- differences as the code holds them

abbrev texts : List Found → List ℕ
texts ds = printed (map line (shown_all ds))

texts-append : (a b : List Found) → texts (a ++ b) ≡ texts a ++ texts b
unfolding printed
texts-append a b =
    ap (joined ended) (ap (map line) (map-append shown a b) ∙ map-append line (shown_all a) (shown_all b))
    ∙ joined-append ended (map line (shown_all a)) (map line (shown_all b))

pub lines_next : (ds : List Found) (k : ℕ) (d : Found) → k < length ds → texts (take k ds) ++ ended (line (shown (get_or ds k d))) ≡ texts (take (k + 1) ds)
unfolding printed joined
lines_next ds k d h =
    ap (λ r. texts (take k ds) ++ r) (sym (append-nil (ended (line (shown (get_or ds k d))))))
    ∙ sym (texts-append (take k ds) (get_or ds k d ∷ []))
    ∙ ap texts (sym (take-suc ds k d h) ∙ ap (λ n. take n ds) (let e : suc k ≡ k + 1 = omega arith in e))

pub lines_all : (ds : List Found) (k : ℕ) → length ds ≤ k → texts (take k ds) ≡ texts ds
lines_all ds k h = ap texts (take_all k ds h)

pub lines_none : (out : List ℕ) → Put out 0 (printed []) 0 out
unfolding printed joined
lines_none out = put_nothing out 0
