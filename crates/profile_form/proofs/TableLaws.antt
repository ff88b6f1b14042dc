-- The code's table, by tests that are computed over it whole. Assumes nothing.
use Prim.Native.Nat.{ℕ, zero, suc, ◌%◌, ◌<◌, ◌≤◌}
use native.Mathlib.Omega.{arith}
use native.Mathlib.Nat.{mod-lt}
use mathlib.Core.Path.{◌≡◌, refl, sym, ap, ap₂, ◌∙◌}
use mathlib.Core.Bool.{Bool, true, false, not, ◌&&◌, ◌||◌, beq}
use mathlib.Core.List.{List, [], ◌∷◌}
use lib.Dec.{T, eqb, leb, ltb, eqb→eq, leb→le, ltb→lt}
use lib.ListN.{length, get_or}
use Rattle.wire.proofs.Bools.{by_bool, clash, and_l, and_r, or_neither, is_true}
use Rattle.wire.proofs.ByteLaws.{same_eq, same_true, same_sym}
use Rattle.wire.specs.First.{first}
use Rattle.wire.proofs.FirstLaws.{first-before, first_is, first-none}
use Rattle.wire.specs.Lists.{any, every, tab}
use Rattle.wire.specs.Bytes.{empty, same}
use Rattle.wire.specs.Word.{word, word_of}
use Rattle.entry_id.specs.Canonical.{head_number}
use Rattle.entry_id.specs.Meaning.{Feature, name_byte, field_byte, processor_byte, processor_shaped}
use Rattle.entry_id.specs.Processors.{Processor, processors, names, stands, all_names, primary_in}
use Rattle.entry_id.specs.Profile.{primary_of, supported, supports}
use Rattle.entry_id.proofs.FeatureLaws.{beq_eq}
use Rattle.entry_id.proofs.NameLaws.{any-names}
use Rattle.profile_form.specs.Table.{row_for, rows_for, rows_from, table, row_at, name_at, primary_at, marks_at, slot_of, placed, slots}

-- the names are those of the processors, in their order
names_are : tab 68 name_at ≡ all_names processors
unfolding tab name_at table rows_from rows_for row_for processors names all_names
names_are = refl

pub table-length : length table ≡ 68
unfolding table rows_from rows_for row_for processors names
table-length = refl

-- ---- row by row

every_tab : {A : Type 0} (p : A → Bool) (n : ℕ) (f : ℕ → A) (k : ℕ) → T (every p (tab n f)) → k < n → T (p (f k))
unfolding every tab
every_tab p zero f k t h = absurd (omega arith)
every_tab p (suc n) f zero t h = and_l (p (f zero)) (every p (tab n (λ i. f (suc i)))) t
every_tab p (suc n) f (suc k) t h = every_tab p n (λ i. f (suc i)) k (and_r (p (f zero)) (every p (tab n (λ i. f (suc i)))) t) (omega arith)

-- the row of p, where it stands, supports what the marks say
abbrev marked : List ℕ → Bool → Bool → Processor → Bool
marked p s x r = not (stands p r) || (beq r.sramecc s && beq r.xnack x)

right_row : ℕ → Bool
right_row k =
    let p = name_at (primary_at k) in
    eqb (length (row_at table k).name) 16 && leb (row_at table k).length 16 && ltb (primary_at k) 68 && same (primary_of (name_at k)) p
    && every (marked p (marks_at k).sramecc (marks_at k).xnack) processors && any (stands p) processors
    && not (empty p) && processor_shaped p && leb (length p) 16

all_right : T (every right_row (tab 68 (λ k. k)))
unfolding right_row every any tab same empty field_byte name_byte processor_byte processor_shaped name_at primary_at marks_at table rows_from rows_for row_for processors names stands primary_in primary_of
all_right = tt

absorb : (b a : Bool) → (b || (a && b)) ≡ b
absorb true a = refl
absorb false true = refl
absorb false false = refl

every-supports : (r : Processor) (fs : List Feature) → every (supports r) fs ≡ every (supported r.sramecc r.xnack) fs
unfolding every supports
every-supports r [] = refl
every-supports r (f ∷ fs) = ap (λ z. supported r.sramecc r.xnack f && z) (every-supports r fs)

-- one row decides, where the rows on which p stands have its marks
any_marked : (p : List ℕ) (s x : Bool) (fs : List Feature) (rs : List Processor) → T (every (marked p s x) rs)
    → any (λ r. stands p r && every (supports r) fs) rs ≡ (any (stands p) rs && every (supported s x) fs)
unfolding any every
any_marked p s x fs [] t = refl
any_marked p s x fs (r ∷ rs) t =
    let b = every (supported s x) fs in
    let rest = any_marked p s x fs rs (and_r (marked p s x r) (every (marked p s x) rs) t) in
    by_bool (stands p r)
    (λ e.
    let u : T (beq r.sramecc s && beq r.xnack x) = rw e at (and_l (marked p s x r) (every (marked p s x) rs) t) in
    let q : every (supports r) fs ≡ b =
    every-supports r fs ∙ ap₂ (λ y z. every (supported y z) fs) (beq_eq r.sramecc s (and_l (beq r.sramecc s) _ u)) (beq_eq r.xnack x (and_r (beq r.sramecc s) _ u)) in
    rw (e, q, rest) (absorb b (any (stands p) rs)))
    (λ e. rw (e, rest))

module _ (k : ℕ) (h : k < 68) where
  right : T (right_row k)
  right = every_tab right_row 68 (λ i. i) k all_right h

  pub name_long : length (row_at table k).name ≡ 16
  unfolding right_row
  name_long = let t = right in let u : T (eqb (length (row_at table k).name) 16) = search (and_l, and_r) depth 12 in eqb→eq _ _ u

  pub size_small : (row_at table k).length ≤ 16
  unfolding right_row
  size_small = let t = right in let u : T (leb (row_at table k).length 16) = search (and_l, and_r) depth 12 in leb→le _ _ u

  pub primary_below : primary_at k < 68
  unfolding right_row
  primary_below = let t = right in let u : T (ltb (primary_at k) 68) = search (and_l, and_r) depth 12 in ltb→lt _ _ u

  -- the table's row says what the processors say of the name
  pub primary_is : primary_of (name_at k) ≡ name_at (primary_at k)
  unfolding right_row
  primary_is = let t = right in let u : T (same (primary_of (name_at k)) (name_at (primary_at k))) = search (and_l, and_r) depth 12 in same_eq _ _ u

  pub known_is : (fs : List Feature) → any (λ r. stands (name_at (primary_at k)) r && every (supports r) fs) processors ≡ every (supported (marks_at k).sramecc (marks_at k).xnack) fs
  unfolding right_row
  known_is fs =
      let t = right in
      let m : T (every (marked (name_at (primary_at k)) (marks_at k).sramecc (marks_at k).xnack) processors) = search (and_l, and_r) depth 12 in
      let a : T (any (stands (name_at (primary_at k))) processors) = search (and_l, and_r) depth 12 in
      any_marked (name_at (primary_at k)) (marks_at k).sramecc (marks_at k).xnack fs processors m ∙ ap (λ b. b && every (supported (marks_at k).sramecc (marks_at k).xnack) fs) (is_true (any (stands (name_at (primary_at k))) processors) a)

  pub primary_some : T (not (empty (name_at (primary_at k))))
  unfolding right_row
  primary_some = let t = right in search (and_l, and_r) depth 12

  pub primary_short : length (name_at (primary_at k)) ≤ 16
  unfolding right_row
  primary_short = let t = right in let u : T (leb (length (name_at (primary_at k))) 16) = search (and_l, and_r) depth 12 in leb→le _ _ u

  pub primary_shaped : T (processor_shaped (name_at (primary_at k)))
  unfolding right_row
  primary_shaped = let t = right in search (and_l, and_r) depth 12

-- ---- where the row of a name is

right_slot : ℕ → Bool
right_slot k = eqb (get_or slots (slot_of (name_at k)) 0) k

all_slots : T (every right_slot (tab 68 (λ k. k)))
unfolding right_slot every tab slots placed slot_of head_number word word_of name_at table rows_from rows_for row_for processors names
all_slots = tt

rows_below : T (every (λ k. ltb k 68) slots)
unfolding every slots placed tab slot_of head_number word word_of name_at table rows_from rows_for row_for processors names
rows_below = tt

every_at : (p : ℕ → Bool) (l : List ℕ) (i d : ℕ) → T (every p l) → T (p d) → T (p (get_or l i d))
unfolding every
every_at p [] i d t u = u
every_at p (x ∷ l) zero d t u = and_l (p x) (every p l) t
every_at p (x ∷ l) (suc i) d t u = every_at p l i d (and_r (p x) (every p l) t) u

module _ (w : List ℕ) where
  abbrev slot : ℕ
  slot = get_or slots (slot_of w) 0

  pub slot-below : slot < 68
  slot-below = ltb→lt slot 68 (every_at (λ k. ltb k 68) slots (slot_of w) 0 rows_below tt)

  pub slot_in : slot_of w < 160
  unfolding slot_of
  slot_in = mod-lt (head_number w % 1633811) (omega arith)

  -- a row that has the name is there
  there : (k : ℕ) → k < 68 → same (name_at k) w ≡ true → k ≡ slot
  unfolding right_slot
  there k h e =
      let t : T (right_slot k) = every_tab right_slot 68 (λ i. i) k all_slots h in
      sym (eqb→eq (get_or slots (slot_of (name_at k)) 0) k t) ∙ ap (λ n. get_or slots (slot_of n) 0) (same_true (name_at k) w e)

  pub row-found : same (name_at slot) w ≡ true → slot ≡ first 68 (λ k. same (name_at k) w)
  row-found e =
      sym (first_is 68 (λ k. same (name_at k) w) slot slot-below e
      (λ j h. by_bool (same (name_at j) w) (λ t. absurd (omega (arith, there j (omega (arith, slot-below)) t))) (λ f. f)))

  pub row-none : same (name_at slot) w ≡ false → 68 ≡ first 68 (λ k. same (name_at k) w)
  row-none e =
      sym (first-none 68 (λ k. same (name_at k) w)
      (λ j h. by_bool (same (name_at j) w) (λ t. clash (same (name_at slot) w) (ap (λ k. same (name_at k) w) (sym (there j h t)) ∙ t) e) (λ f. f)))

-- ---- a name that no row has

any_tab : {A : Type 0} (p : A → Bool) (n : ℕ) (f : ℕ → A) → ((k : ℕ) → k < n → p (f k) ≡ false) → any p (tab n f) ≡ false
unfolding any tab
any_tab p zero f h = refl
any_tab p (suc n) f h = rw (h zero (omega arith)) (any_tab p n (λ i. f (suc i)) (λ k l. h (suc k) (omega arith)))

primary_none : (w : List ℕ) (rs : List Processor) → any (stands w) rs ≡ false → primary_in rs w ≡ w
unfolding any primary_in
primary_none w [] t = refl
primary_none w (r ∷ rs) t = let (a, b) = or_neither (stands w r) (any (stands w) rs) t in rw a (primary_none w rs b)

known-none : (w : List ℕ) (q : Processor → Bool) (rs : List Processor) → any (stands w) rs ≡ false → any (λ r. stands w r && q r) rs ≡ false
unfolding any
known-none w q [] t = refl
known-none w q (r ∷ rs) t = let (a, b) = or_neither (stands w r) (any (stands w) rs) t in rw a (known-none w q rs b)

module _ (w : List ℕ) (e : first 68 (λ k. same (name_at k) w) ≡ 68) where
  none-stands : any (stands w) processors ≡ false
  none-stands =
      any-names w processors ∙ ap (any (same w)) (sym names_are)
      ∙ any_tab (same w) 68 name_at (λ k l. same_sym w (name_at k) ∙ first-before 68 (λ i. same (name_at i) w) k (omega (arith, e)))

  pub unknown_primary : primary_of w ≡ w
  unfolding primary_of
  unknown_primary = primary_none w processors none-stands

  pub unknown_is : (q : Processor → Bool) → any (λ r. stands w r && q r) processors ≡ false
  unknown_is q = known-none w q processors none-stands
