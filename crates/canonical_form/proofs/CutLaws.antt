-- Cutting a text at its runs of field bytes. Assumes nothing.
use Rattle.std.proofs.Common.{◌≡◌, ℕ, suc, ◌<◌, ◌≤◌, Bool, true, false, ◌&&◌, T, eqb, ltb, ◌≢◌, List, [], ◌∷◌, ◌++◌, length, get_or, drop, sym, refl, ap, ◌∙◌, subst, inl, inr, append-nil, eqb→eq, drop_of_length-le, drop-cons, le-ltb, lt-ltb, ne_eqb, eqb-true}
use borrow.Author.Tests.{eqb-false}
use Rattle.wire.specs.Lists.{every}
use Rattle.entry_id.specs.Text.{split_on, on_first}
use Rattle.wire.proofs.Bools.{and_l, and_r, or_neither, neither_or, is_false, cases}
use Rattle.entry_id.proofs.TextLaws.{split_last, split_skip, split_some}
use Rattle.entry_id.specs.Meaning.{fields_of, pieces_of, field_byte, name_byte, processor_byte}
use Rattle.entry_id.proofs.ReadBack.{no_dash}
use Rattle.entry_id.specs.Scan.{part, Run, ends_at, pieces_at}
use Rattle.entry_id.proofs.RunLaws.{part-drop, byte_inside}

-- ---- a text that starts with a run

no_colon : T (field_byte 58) → ⊥
unfolding field_byte name_byte
no_colon t = t

module _ (c : ℕ) (p : ℕ → Bool) (no : T (p c) → ⊥) where
  other : (x : ℕ) → T (p x) → eqb x c ≡ false
  other x t = is_false (eqb x c) (λ e. no (subst (λ (y : ℕ). T (p y)) (eqb→eq x c e) t))

  -- a run without c lies in the first piece
  pub split_through : (f r : List ℕ) → T (every p f) → split_on c (f ++ r) ≡ (f ++ get_or (split_on c r) 0 []) ∷ drop 1 (split_on c r)
  unfolding split_on every on_first
  split_through [] r t = let (q, qs, e) = split_some c r in rw e
  split_through (x ∷ f) r t = rw (other x (and_l (p x) (every p f) t), split_through f r (and_r (p x) (every p f) t))

module _ (f r : List ℕ) (t : T (every field_byte f)) where
  fields_dash : fields_of (f ++ 45 ∷ r) ≡ f ∷ fields_of r
  unfolding fields_of split_on on_first
  fields_dash =
      let (q, qs, e) = split_some 58 r in
      rw (split_through 58 field_byte no_colon f (45 ∷ r) t, e) (split_skip 45 field_byte no_dash f q t)

  pieces_dash : pieces_of (f ++ 45 ∷ r) ≡ pieces_of r
  unfolding pieces_of split_on on_first
  pieces_dash =
      let (q, qs, e) = split_some 58 r in
      rw (split_through 58 field_byte no_colon f (45 ∷ r) t, e)

  fields_colon : fields_of (f ++ 58 ∷ r) ≡ f ∷ []
  unfolding fields_of
  fields_colon = rw (split_skip 58 field_byte no_colon f r t) (split_last 45 field_byte no_dash f t)

  pieces_colon : pieces_of (f ++ 58 ∷ r) ≡ split_on 58 r
  unfolding pieces_of
  pieces_colon = rw (split_skip 58 field_byte no_colon f r t)

  fields_end : fields_of f ≡ f ∷ []
  unfolding fields_of
  fields_end = rw (split_last 58 field_byte no_colon f t) (split_last 45 field_byte no_dash f t)

  pieces_end : pieces_of f ≡ []
  unfolding pieces_of
  pieces_end = rw (split_last 58 field_byte no_colon f t)

pub every-not : {A : Type 0} (p : A → Bool) (f : List A) (b : A) (r : List A) → p b ≡ false → every p (f ++ b ∷ r) ≡ false
unfolding every
every-not p [] b r e = rw e
every-not p (x ∷ f) b r e = both (p x) (every-not p f b r e)
  where
    both : {u : Bool} (v : Bool) → u ≡ false → (v && u) ≡ false
    both true h = h
    both false h = refl

first-not : (c b : ℕ) (r : List ℕ) → eqb b c ≡ false → split_on c (b ∷ r) ≡ (b ∷ get_or (split_on c r) 0 []) ∷ drop 1 (split_on c r)
unfolding split_on on_first
first-not c b r e = let (q, qs, h) = split_some c r in rw (e, h)

-- a run of field bytes lies in the first field
pub first_through : (f r : List ℕ) → T (every field_byte f) → get_or (fields_of (f ++ r)) 0 [] ≡ f ++ get_or (fields_of r) 0 []
unfolding fields_of
first_through f r t = rw (split_through 58 field_byte no_colon f r t, split_through 45 field_byte no_dash f (get_or (split_on 58 r) 0 []) t)

-- a byte that no processor has: the first field has it
first_bad : (f r : List ℕ) (b : ℕ) → T (every field_byte f) → processor_byte b ≡ false → eqb b 58 ≡ false → every processor_byte (get_or (fields_of (f ++ b ∷ r)) 0 []) ≡ false
unfolding fields_of processor_byte
first_bad f r b t n k =
    let q = get_or (split_on 58 r) 0 [] in
    rw (first_through f (b ∷ r) t, first-not 58 b r k, first-not 45 b q (or_neither (field_byte b) (eqb b 45) n).1, every-not processor_byte f b (get_or (split_on 45 q) 0 []) n)

-- ---- the same by positions

-- what the byte after a run says
pub data Cut (x : List ℕ) (s a : ℕ) : Type 0 where
  at_dash : get_or x a 0 ≡ 45 → fields_of (drop s x) ≡ part x s a ∷ fields_of (drop (suc a) x) → pieces_of (drop s x) ≡ pieces_of (drop (suc a) x) → Cut x s a
  at_end : ends_at x a ≡ true → fields_of (drop s x) ≡ part x s a ∷ [] → pieces_of (drop s x) ≡ pieces_at x a → Cut x s a
  at_bad : (get_or x a 0 ≢ 45) → ends_at x a ≡ false → every processor_byte (get_or (fields_of (drop s x)) 0 []) ≡ false → Cut x s a

module _ (x : List ℕ) (s a : ℕ) (h : Run field_byte x s a) where
  after : a < length x → drop s x ≡ part x s a ++ get_or x a 0 ∷ drop (suc a) x
  after k = part-drop x s a h.low ∙ ap (λ r. part x s a ++ r) (drop-cons x a 0 k)

  none : length x ≤ a → drop s x ≡ part x s a
  none k = part-drop x s a h.low ∙ ap (λ r. part x s a ++ r) (drop_of_length-le x k) ∙ append-nil (part x s a)

  cut_dash : a < length x → get_or x a 0 ≡ 45 → Cut x s a
  cut_dash k e =
      let f : drop s x ≡ part x s a ++ 45 ∷ drop (suc a) x = after k ∙ ap (λ b. part x s a ++ b ∷ drop (suc a) x) e in
      at_dash e (ap fields_of f ∙ fields_dash (part x s a) (drop (suc a) x) h.passed) (ap pieces_of f ∙ pieces_dash (part x s a) (drop (suc a) x) h.passed)

  cut_colon : a < length x → get_or x a 0 ≡ 58 → Cut x s a
  unfolding ends_at pieces_at
  cut_colon k e =
      let f : drop s x ≡ part x s a ++ 58 ∷ drop (suc a) x = after k ∙ ap (λ b. part x s a ++ b ∷ drop (suc a) x) e in
      at_end (rw (lt-ltb a (length x) k, e)) (ap fields_of f ∙ fields_colon (part x s a) (drop (suc a) x) h.passed)
      (rw (lt-ltb a (length x) k) (ap pieces_of f ∙ pieces_colon (part x s a) (drop (suc a) x) h.passed))

  cut_end : length x ≤ a → Cut x s a
  unfolding ends_at pieces_at
  cut_end k =
      let f = none k in
      at_end (rw (le-ltb a (length x) k)) (ap fields_of f ∙ fields_end (part x s a) [] h.passed)
      (rw (le-ltb a (length x) k) (ap pieces_of f ∙ pieces_end (part x s a) [] h.passed))

  cut_bad : a < length x → get_or x a 0 ≢ 45 → get_or x a 0 ≢ 58 → Cut x s a
  unfolding ends_at processor_byte
  cut_bad k m n =
      at_bad m (rw (lt-ltb a (length x) k) (ne_eqb (get_or x a 0) 58 n))
      (ap (λ y. every processor_byte (get_or (fields_of y) 0 [])) (after k)
      ∙ first_bad (part x s a) (drop (suc a) x) (get_or x a 0) h.passed (neither_or _ _ (h.stop k) (ne_eqb (get_or x a 0) 45 m)) (ne_eqb (get_or x a 0) 58 n))

  inside : ltb a (length x) ≡ true → Cut x s a
  inside e =
      let k = borrow.Author.Tests.ltb-true a (length x) e in
      elim (cases (eqb (get_or x a 0) 45)) [
        | inl d ↦ cut_dash k (eqb-true (get_or x a 0) 45 d)
        | inr d ↦ elim (cases (eqb (get_or x a 0) 58)) [
          | inl f ↦ cut_colon k (eqb-true (get_or x a 0) 58 f)
          | inr f ↦ cut_bad k (eqb-false (get_or x a 0) 45 d) (eqb-false (get_or x a 0) 58 f)
        ]
      ]

  pub cut : Cut x s a
  cut = elim (cases (ltb a (length x))) [ inl e ↦ inside e | inr e ↦ cut_end (borrow.Author.Tests.ltb-false a (length x) e) ]

  pub skip_fields : get_or x a 0 ≡ 45 → fields_of (drop s x) ≡ part x s a ∷ fields_of (drop (suc a) x)
  skip_fields e =
      let f : drop s x ≡ part x s a ++ 45 ∷ drop (suc a) x = after (byte_inside x a 44 e) ∙ ap (λ b. part x s a ++ b ∷ drop (suc a) x) e in
      ap fields_of f ∙ fields_dash (part x s a) (drop (suc a) x) h.passed

  pub skip_pieces : get_or x a 0 ≡ 45 → pieces_of (drop s x) ≡ pieces_of (drop (suc a) x)
  skip_pieces e =
      let f : drop s x ≡ part x s a ++ 45 ∷ drop (suc a) x = after (byte_inside x a 44 e) ∙ ap (λ b. part x s a ++ b ∷ drop (suc a) x) e in
      ap pieces_of f ∙ pieces_dash (part x s a) (drop (suc a) x) h.passed

  pub dash_goes_on : get_or x a 0 ≡ 45 → ends_at x a ≡ false
  unfolding ends_at
  dash_goes_on e = rw (lt-ltb a (length x) (byte_inside x a 44 e), e)

  -- the head ends after the run
  pub last_fields : ends_at x a ≡ true → (fields_of (drop s x) ≡ part x s a ∷ []) × (pieces_of (drop s x) ≡ pieces_at x a)
  last_fields e = elim cut [
    | at_dash d f p ↦ let g = dash_goes_on d in let z : ◌≡◌ {A = Bool} true false = sym e ∙ g in absurd (subst T z tt)
    | at_end d f p ↦ (f, p)
    | at_bad m d f ↦ let z : ◌≡◌ {A = Bool} true false = sym e ∙ d in absurd (subst T z tt)
  ]

  -- neither a '-' nor the end
  pub bad_field : (get_or x a 0 ≡ 45 → ⊥) → ends_at x a ≡ false → every processor_byte (get_or (fields_of (drop s x)) 0 []) ≡ false
  bad_field m e = elim cut [
    | at_dash d f p ↦ absurd (m d)
    | at_end d f p ↦ let z : ◌≡◌ {A = Bool} true false = sym d ∙ e in absurd (subst T z tt)
    | at_bad n d f ↦ f
  ]
