-- Texts and canonical forms cut behind their kinds; which kinds are compared as one. Assumes nothing.
use Prim.Native.Nat.{ℕ}
use Prim.Native.Char.{code}
use mathlib.Core.Path.{◌≡◌, refl, sym, ap, ap₂, ◌∙◌}
use mathlib.Core.Bool.{Bool, true, false, not, ◌&&◌, ◌||◌}
use mathlib.Core.List.{List, [], ◌∷◌, ◌++◌, map, append_assoc}
use lib.ListN.{length, get_or, drop}
use lib.Seq.{drop-append_seam}
use lib.Dec.{T, eqb}
use borrow.Author.Tests.{eq-eqb, ne_eqb, eqb-true, eqb-false}
use Rattle.wire.specs.Bytes.{bytes, same}
use Rattle.wire.specs.Lists.{every}
use Rattle.wire.proofs.Bools.{by_bool, of_true, is_true, and_l, and_r, and_t, and_true, or_true, or_false, or_neither}
use Rattle.wire.proofs.ByteLaws.{same_eq, same_refl, same_sym}
use Rattle.entry_id.specs.Text.{split_on, on_first, join_with, other_than, not_colon}
use Rattle.entry_id.specs.Meaning.{Meaning, fields_of, pieces_of, meaning_of, meaning, piece, six_fields, canonical_of, field_byte}
use Rattle.entry_id.specs.Compare.{compared_kind}
use Rattle.entry_id.specs.Theorems.{hip_kind}
use Rattle.entry_id.specs.Canonical.{head_of, kind_part, after_kind, of_one_kind}
use Rattle.entry_id.proofs.TextLaws.{every_imp, split_skip, split_start, split_some}
use Rattle.entry_id.proofs.ReadBack.{Plain, five_fields, no_dash, no_colon, field-not_colon, head_write}

-- ---- any text, byte by byte

pub head_none : head_of [] ≡ []
unfolding head_of split_on
head_none = refl

pub head_colon : (y : ℕ) (x : List ℕ) → y ≡ 58 → head_of (y ∷ x) ≡ []
unfolding head_of split_on
head_colon y x e = rw (eq-eqb y 58 e)

pub head_more : (y : ℕ) (x : List ℕ) → (y ≡ 58 → ⊥) → head_of (y ∷ x) ≡ y ∷ head_of x
unfolding head_of split_on on_first
head_more y x n = let (q, qs, e) = split_some 58 x in rw (ne_eqb y 58 n, e)

-- a start without ':' belongs to the head
module _ (p : List ℕ) (t : T (every not_colon p)) where
  pub head_start : (a : List ℕ) → head_of (p ++ a) ≡ p ++ head_of a
  unfolding head_of
  head_start a = let (q, qs, e) = split_some 58 a in rw (split_start 58 not_colon no_colon p a q qs t e, e)

  pub pieces_start : (a : List ℕ) → pieces_of (p ++ a) ≡ pieces_of a
  unfolding pieces_of
  pieces_start a = let (q, qs, e) = split_some 58 a in rw (split_start 58 not_colon no_colon p a q qs t e, e)

kind-none : kind_part [] ≡ []
unfolding kind_part fields_of split_on
kind-none = refl

-- a byte that ends a field
unfoldable pub ends : ℕ → Bool
ends y = eqb y 45 || eqb y 58

kind_ends : (y : ℕ) (x : List ℕ) → ends y ≡ true → kind_part (y ∷ x) ≡ []
unfolding kind_part fields_of head_of split_on on_first ends
kind_ends y x e =
    by_bool (eqb y 58)
    (λ c. rw c)
    (λ c. let (q, qs, r) = split_some 58 x in rw (c, r, sym (or_false (eqb y 45)) ∙ rw c at e))

kind_more : (y : ℕ) (x : List ℕ) → ends y ≡ false → kind_part (y ∷ x) ≡ y ∷ kind_part x
unfolding kind_part fields_of split_on on_first ends
kind_more y x e =
    let (d, c) = or_neither (eqb y 45) (eqb y 58) e in
    let (q, qs, r) = split_some 58 x in
    let (k, ks, f) = split_some 45 q in
    rw (c, r, d, f)

pub after_none : after_kind [] ≡ []
unfolding after_kind
after_none = rw kind-none

-- the two cuts in either order
pub kind-cut : (x : List ℕ) → kind_part x ≡ head_of (get_or (split_on 45 x) 0 [])
unfolding split_on on_first ends
kind-cut [] = rw (kind-none, head_none)
kind-cut (y ∷ x) =
    by_bool (ends y)
    (λ e. kind_ends y x e ∙ by_bool (eqb y 45) (λ d. rw (d, head_none)) (λ d. let (k, ks, f) = split_some 45 x in rw (d, f) (sym (head_colon y k (eqb-true y 58 (rw d at e))))))
    (λ e. let (d, c) = or_neither (eqb y 45) (eqb y 58) e in
    let (k, ks, f) = split_some 45 x in
    kind_more y x e ∙ ap (λ l. y ∷ l) (kind-cut x) ∙ rw (d, f) (sym (head_more y k (eqb-false y 58 c))))

module _ (y : ℕ) (x : List ℕ) where
  pub after_ends : ends y ≡ true → after_kind (y ∷ x) ≡ y ∷ x
  unfolding after_kind
  after_ends e = rw (kind_ends y x e)

  pub after_more : ends y ≡ false → after_kind (y ∷ x) ≡ after_kind x
  unfolding after_kind
  after_more e = rw (kind_more y x e)

-- a text is its kind and what follows
pub kind_whole : (x : List ℕ) → kind_part x ++ after_kind x ≡ x
unfolding after_kind
kind_whole [] = rw kind-none
kind_whole (y ∷ x) =
    by_bool (ends y)
    (λ e. rw (kind_ends y x e))
    (λ e. rw (kind_more y x e) (ap (λ l. y ∷ l) (kind_whole x)))

pub kind_plain : (x : List ℕ) → T (every not_colon (kind_part x))
unfolding every other_than ends
kind_plain [] = rw kind-none tt
kind_plain (y ∷ x) =
    by_bool (ends y)
    (λ e. rw (kind_ends y x e) tt)
    (λ e. rw (kind_more y x e) (and_t (not (eqb y 58)) (every not_colon (kind_part x)) (of_true _ (ap not (or_neither (eqb y 45) (eqb y 58) e).1)) (kind_plain x)))

-- ---- a text that starts with a field and a '-'

module _ (k t : List ℕ) (h : T (every field_byte k)) where
  plain_field : T (every not_colon k)
  plain_field = every_imp field_byte not_colon field-not_colon k h

  plain_dash : T (every not_colon (45 ∷ []))
  unfolding every other_than
  plain_dash = tt

  behind_fields : fields_of (k ++ 45 ∷ t) ≡ k ∷ fields_of t
  unfolding fields_of head_of
  behind_fields =
      ap (split_on 45) (head_start k plain_field (45 ∷ t) ∙ ap (λ l. k ++ l) (head_start (45 ∷ []) plain_dash t))
      ∙ split_skip 45 field_byte no_dash k (head_of t) h

  behind_pieces : pieces_of (k ++ 45 ∷ t) ≡ pieces_of t
  behind_pieces = pieces_start k plain_field (45 ∷ t) ∙ pieces_start (45 ∷ []) plain_dash t

  pub meaning-behind : meaning (k ++ 45 ∷ t) ≡ meaning_of (k ∷ fields_of t) (pieces_of t)
  unfolding meaning
  meaning-behind = ap₂ meaning_of behind_fields behind_pieces

  pub kind-before : kind_part (k ++ 45 ∷ t) ≡ k
  unfolding kind_part
  kind-before = ap (λ (l : List (List ℕ)). get_or l 0 []) behind_fields

  after-before : after_kind (k ++ 45 ∷ t) ≡ 45 ∷ t
  unfolding after_kind
  after-before = ap (λ (l : List ℕ). drop (length l) (k ++ 45 ∷ t)) kind-before ∙ drop-append_seam k (45 ∷ t)

-- ---- a meaning without its kind

unfoldable pub bare : Meaning → Meaning
bare m = record {
  kind = [];
  arch = m.arch;
  vendor = m.vendor;
  system = m.system;
  environment = m.environment;
  processor = m.processor;
  features = m.features;
}

join_first : (c : ℕ) (a b : List ℕ) (l : List (List ℕ)) → join_with c ((a ++ b) ∷ l) ≡ a ++ join_with c (b ∷ l)
unfolding join_with
join_first c a b [] = refl
join_first c a b (p ∷ l) = append_assoc a b (c ∷ join_with c (p ∷ l))

module _ (m : Meaning) (h : Plain m) where
  pub bare_plain : Plain (bare m)
  unfolding bare every five_fields
  bare_plain = record {
    all_fields = and_r (every field_byte m.kind) _ h.all_fields;
    environment_plain = h.environment_plain;
    processor_bytes = h.processor_bytes;
    all_named = h.all_named;
    in_order = h.in_order;
  }

  -- what follows the kind in the head, behind the '-'
  fields : List ℕ
  fields = join_with 45 (m.arch ∷ m.vendor ∷ m.system ∷ m.environment ∷ m.processor ∷ [])

  form-bare : canonical_of (bare m) ≡ 45 ∷ join_with 58 (fields ∷ map piece m.features)
  unfolding canonical_of six_fields bare join_with fields
  form-bare = join_first 58 (45 ∷ []) fields (map piece m.features)

  form-kind : canonical_of m ≡ m.kind ++ 45 ∷ join_with 58 (fields ∷ map piece m.features)
  unfolding canonical_of six_fields join_with fields
  form-kind = join_first 58 m.kind (45 ∷ fields) (map piece m.features) ∙ ap (λ l. m.kind ++ l) (join_first 58 (45 ∷ []) fields (map piece m.features))

  plain_kind : T (every field_byte m.kind)
  unfolding every five_fields
  plain_kind = and_l (every field_byte m.kind) _ h.all_fields

  kind-form : kind_part (canonical_of m) ≡ m.kind
  kind-form = ap kind_part form-kind ∙ kind-before m.kind _ plain_kind

  after-form : after_kind (canonical_of m) ≡ canonical_of (bare m)
  after-form = ap after_kind form-kind ∙ after-before m.kind _ plain_kind ∙ sym form-bare

  pub kind_head : kind_part (join_with (code "-") (six_fields m)) ≡ kind_part (canonical_of m)
  unfolding six_fields join_with
  kind_head = kind-before m.kind _ plain_kind ∙ sym kind-form

  -- the head behind the kind, in either order
  pub after_head : after_kind (join_with (code "-") (six_fields m)) ≡ head_of (after_kind (canonical_of m))
  unfolding head_of six_fields join_with bare
  after_head = after-before m.kind _ plain_kind ∙ sym (head_write (bare m) bare_plain) ∙ sym (ap head_of after-form)

-- a test on canonical forms is one of kinds and one behind them
pub kind_test : (test : List ℕ → List ℕ → Bool) (a b : Meaning) → Plain a → Plain b
    → of_one_kind test (canonical_of a) (canonical_of b) ≡ (same (compared_kind a.kind) (compared_kind b.kind) && test (canonical_of (bare a)) (canonical_of (bare b)))
unfolding of_one_kind
kind_test test a b h k =
    ap₂ ◌&&◌
    (ap₂ (λ (x y : List ℕ). same (compared_kind x) (compared_kind y)) (kind-form a h) (kind-form b k))
    (ap₂ test (after-form a h) (after-form b k))

-- ---- one kind

module _ (j k : List ℕ) where
  abbrev hip : List ℕ
  hip = bytes "hip"

  abbrev four : List ℕ
  four = bytes "hipv4"

  -- neither is spelled hipv4
  spelled-apart : same j k ≡ (same j k || (same j hip && same k hip))
  spelled-apart =
      by_bool (same j hip)
      (λ a.
      by_bool (same k hip)
      (λ b. let e : same j k ≡ true = ap (λ z. same j z) (same_eq k hip (of_true _ b)) ∙ a in rw e)
      (λ b. rw (a, b) (sym (or_false (same j k)))))
      (λ a. rw a (sym (or_false (same j k))))

  with_four : same k four ≡ true → same j k ≡ same j four
  with_four v = ap (λ z. same j z) (same_eq k four (of_true _ v))

  pub kinds_apart : same (compared_kind j) (compared_kind k) ≡ (same j k || (hip_kind j && hip_kind k))
  unfolding compared_kind hip_kind
  kinds_apart =
      by_bool (same j four)
      (λ u.
      by_bool (same k four)
      (λ v. let e = with_four v ∙ u in rw (u, v, e) (is_true _ (same_refl hip)))
      (λ v.
      let e : same j k ≡ false = ap (λ z. same z k) (same_eq j four (of_true _ u)) ∙ same_sym four k ∙ v in
      rw (u, v, e, or_true (same j hip), or_false (same k hip)) (same_sym hip k)))
      (λ u.
      by_bool (same k four)
      (λ v. let e = with_four v ∙ u in rw (u, v, e, or_false (same j hip), or_true (same k hip)) (sym (and_true (same j hip))))
      (λ v. rw (u, v, or_false (same j hip), or_false (same k hip)) spelled-apart))
