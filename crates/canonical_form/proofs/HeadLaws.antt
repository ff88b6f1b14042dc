-- What the scan of the head finds, against `fields_of` and `valid`. Assumes nothing.
use Rattle.std.proofs.Common.{◌≡◌, ℕ, suc, ◌<◌, ◌≤◌, Bool, true, false, cond, not, T, leb, ◌≢◌, List, [], ◌∷◌, ◌++◌, length, get_or, take, drop, refl, ap, ◌∙◌, subst, append_assoc, arith, leb→le, get_or-drop}
use Rattle.std.proofs.Common.{Option, Some, None, MatchOption}
use Rattle.wire.specs.Lists.{any, every}
use Rattle.wire.specs.Bytes.{same, empty}
use Rattle.wire.proofs.Bools.{by_bool, and_l, and_r, and_t, is_false, of_true}
use Rattle.entry_id.specs.Text.{join_with}
use Rattle.entry_id.specs.Meaning.{fields_of, pieces_of, field_byte, processor_byte, processor_shaped, names_processor, fifth_is_processor, meaning_of, meaning, kinds, shaped, proper, valid}
use Rattle.entry_id.proofs.ReadBack.{any-holds, Proper, parts, kind-bytes, as_processor, shaped-bytes, proper-meaning}
use Rattle.entry_id.proofs.TextLaws.{every_start}
use Rattle.entry_id.specs.Scan.{part, Run}
use Rattle.canonical_form.specs.Heads.{Next, Triple, filled}
use Rattle.entry_id.proofs.RunLaws.{part_none, part_start, part_length, take_step, byte_inside, some_of}
use Rattle.canonical_form.proofs.CutLaws.{at_dash, at_end, at_bad, cut, skip_fields, skip_pieces}

-- of two facts by cases, the one that follows from the other
pub match_then : {A : Type 0} {P P' : Type 0} {Q Q' : A → Type 0} (o : Option A) → MatchOption o P Q → (P → P') → ((x : A) → Q x → Q' x) → MatchOption o P' Q'
match_then None m f g = f m
match_then (Some x) m f g = g x m

-- ---- filled

pub filled_some : (k : ℕ) (f : List ℕ) (fs : List (List ℕ)) → T (filled (suc k) (f ∷ fs)) → T (not (empty f))
unfolding filled
filled_some k f fs t = search (and_l, and_r)

pub filled_rest : (k : ℕ) (f : List ℕ) (fs : List (List ℕ)) → T (filled (suc k) (f ∷ fs)) → T (filled k fs)
unfolding filled
filled_rest k f fs t = search (and_l, and_r)

pub filled-first : (k : ℕ) (fs : List (List ℕ)) → T (filled (suc k) fs) → T (every field_byte (get_or fs 0 []))
unfolding filled
filled-first k [] t = absurd t
filled-first k (f ∷ fs) t = search (and_l, and_r)

pub filled_more : (k : ℕ) → T (filled (suc k) []) → ⊥
unfolding filled
filled_more k t = t

pub not_t : {b : Bool} → b ≡ false → T b → ⊥
not_t e t = subst T e t

-- a field has no byte that no processor has
pub no_field : (f : List ℕ) → every processor_byte f ≡ false → T (every field_byte f) → ⊥
no_field f e t = not_t e (as_processor f t)

module _ (x : List ℕ) (s a k : ℕ) (h : Run field_byte x s a) where
  pub next_no_dash : get_or x a 0 ≢ 45 → filled (suc (suc k)) (fields_of (drop s x)) ≡ false
  next_no_dash n = is_false (filled (suc (suc k)) (fields_of (drop s x))) (λ t. elim (cut x s a h) [
    | at_dash e f p ↦ n e
    | at_end e f p ↦ filled_more k (filled_rest (suc k) (part x s a) [] (rw f at t))
    | at_bad m e f ↦ no_field _ f (filled-first (suc k) (fields_of (drop s x)) t)
  ])

  none-there : Run field_byte x (suc a) (suc a) → T (filled (suc k) (fields_of (drop (suc a) x))) → ⊥
  unfolding empty
  none-there r t = elim (cut x (suc a) (suc a) r) [
    | at_dash e f p ↦ rw (part_none x (suc a)) at (filled_some k (part x (suc a) (suc a)) (fields_of (drop (suc (suc a)) x)) (rw f at t))
    | at_end e f p ↦ rw (part_none x (suc a)) at (filled_some k (part x (suc a) (suc a)) [] (rw f at t))
    | at_bad m e f ↦ no_field _ f (filled-first k (fields_of (drop (suc a) x)) t)
  ]

  pub next-empty : Run field_byte x (suc a) (suc a) → filled (suc (suc k)) (fields_of (drop s x)) ≡ false
  next-empty r = is_false (filled (suc (suc k)) (fields_of (drop s x))) (λ t. elim (cut x s a h) [
    | at_dash e f p ↦ none-there r (filled_rest (suc k) (part x s a) (fields_of (drop (suc a) x)) (rw f at t))
    | at_end e f p ↦ filled_more k (filled_rest (suc k) (part x s a) [] (rw f at t))
    | at_bad m e f ↦ no_field _ f (filled-first (suc k) (fields_of (drop s x)) t)
  ])

-- ---- what `valid` asks of the fields

kind_some : (k : List ℕ) → T (any (same k) kinds) → T (not (empty k))
unfolding kinds every empty
kind_some k t = any-holds (λ f. not (empty f)) k kinds t tt

proper-filled : (fs ps : List (List ℕ)) → 4 ≤ length fs → Proper (meaning_of fs ps) → T (filled 4 fs)
unfolding filled meaning_of every
proper-filled [] ps h m = absurd (omega arith)
proper-filled (a ∷ []) ps h m = absurd (omega arith)
proper-filled (a ∷ b ∷ []) ps h m = absurd (omega arith)
proper-filled (a ∷ b ∷ c ∷ []) ps h m = absurd (omega arith)
proper-filled (a ∷ b ∷ c ∷ d ∷ fs) ps h m =
    let ka = kind_some a m.kind_in in
    let kb = kind-bytes a m.kind_in in
    let fb = m.field_bytes_lem in
    let b1 : T (every field_byte b) = search (and_l, and_r) depth 8 in
    let c1 : T (every field_byte c) = search (and_l, and_r) depth 8 in
    let d1 : T (every field_byte d) = search (and_l, and_r) depth 8 in
    let b2 : T (not (empty b)) = m.arch_some in
    let c2 : T (not (empty c)) = m.vendor_some in
    let d2 : T (not (empty d)) = m.system_some in
    let z : T true = tt in
    search and_t depth 14

-- the first of fields that are joined
first-joined : (p : ℕ → Bool) (fs : List (List ℕ)) → T (every p (join_with 45 fs)) → T (every p (get_or fs 0 []))
unfolding join_with every
first-joined p [] t = tt
first-joined p (f ∷ []) t = t
first-joined p (f ∷ g ∷ fs) t = every_start p f (45 ∷ join_with 45 (g ∷ fs)) t

-- the fifth field is the environment, or the processor starts with it
fifth_bytes : (fs ps : List (List ℕ)) → Proper (meaning_of fs ps) → T (every processor_byte (get_or fs 4 []))
unfolding meaning_of fifth_is_processor every
fifth_bytes fs ps m =
    let f = get_or fs 4 [] in
    by_bool (names_processor f)
    (λ e.
    let s : T (processor_shaped (join_with 45 (drop 4 fs))) = rw e at m.processor_shaped_lem in
    subst (λ g. T (every processor_byte g)) (get_or-drop 4 fs 0 []) (first-joined processor_byte (drop 4 fs) (shaped-bytes _ s)))
    (λ e.
    let b : T (every field_byte (cond (names_processor f) [] f)) = search (and_l, and_r, m.field_bytes_lem) depth 8 in
    as_processor f (rw e at b))

module _ (x : List ℕ) (v : T (valid x)) where
  shaped_is : T (shaped x)
  unfolding valid
  shaped_is = and_l (shaped x) (proper (meaning x)) v

  valid_least : 4 ≤ length (fields_of x)
  unfolding shaped
  valid_least =
      let s = shaped_is in
      let least : T (leb 4 (length (fields_of x))) = search (and_l, and_r) in
      leb→le 4 (length (fields_of x)) least

  pub valid-parts : Proper (meaning x)
  valid-parts = parts (meaning x) (proper-meaning x v)

  pub valid-filled : T (filled 4 (fields_of x))
  unfolding meaning
  valid-filled = proper-filled (fields_of x) (pieces_of x) valid_least valid-parts

  pub valid-kind : T (any (same (get_or (fields_of x) 0 [])) kinds)
  unfolding meaning meaning_of
  valid-kind = valid-parts.kind_in

  pub valid-system : T (every field_byte (get_or (fields_of x) 3 []))
  unfolding meaning meaning_of every
  valid-system = search (and_l, and_r, valid-parts.field_bytes_lem) depth 8

  pub valid_fifth : T (every processor_byte (get_or (fields_of x) 4 []))
  unfolding meaning
  valid_fifth = fifth_bytes (fields_of x) (pieces_of x) valid-parts

-- ---- the first four fields

pub not_valid : (x : List ℕ) → filled 4 (fields_of x) ≡ false → valid x ≡ false
not_valid x e = is_false (valid x) (λ v. not_t e (valid-filled x v))

module _ (x : List ℕ) (a : ℕ) (h : Run field_byte x 0 a) where
  pub triple_kind : any (same (take a x)) kinds ≡ false → valid x ≡ false
  triple_kind n = is_false (valid x) (λ v. elim (cut x 0 a h) [
    | at_dash e f p ↦ not_t n (subst (λ (k : List ℕ). T (any (same k) kinds)) (ap (λ (l : List (List ℕ)). get_or l 0 []) f ∙ part_start x a) (valid-kind x v))
    | at_end e f p ↦ not_t n (subst (λ (k : List ℕ). T (any (same k) kinds)) (ap (λ (l : List (List ℕ)). get_or l 0 []) f ∙ part_start x a) (valid-kind x v))
    | at_bad m e f ↦ no_field _ f (filled-first 3 (fields_of x) (valid-filled x v))
  ])

  module _ (b : ℕ) (nb : Next x a b) where
    first_fields : fields_of x ≡ part x 0 a ∷ fields_of (drop (suc a) x)
    first_fields = skip_fields x 0 a h nb.dash

    pub triple_second : filled 3 (fields_of (drop (suc a) x)) ≡ false → valid x ≡ false
    triple_second n = is_false (valid x) (λ v. not_t n (filled_rest 3 (part x 0 a) (fields_of (drop (suc a) x)) (rw first_fields at (valid-filled x v))))

    module _ (c : ℕ) (nc : Next x b c) where
      second_fields : fields_of (drop (suc a) x) ≡ part x (suc a) b ∷ fields_of (drop (suc b) x)
      second_fields = skip_fields x (suc a) b nb.run nc.dash

      pub triple_third : filled 2 (fields_of (drop (suc b) x)) ≡ false → valid x ≡ false
      triple_third n = triple_second (is_false (filled 3 (fields_of (drop (suc a) x)))
          (λ t. not_t n (filled_rest 2 (part x (suc a) b) (fields_of (drop (suc b) x)) (rw second_fields at t))))

      module _ (d : ℕ) (nd : Next x c d) where
        third_fields : fields_of (drop (suc b) x) ≡ part x (suc b) c ∷ fields_of (drop (suc c) x)
        third_fields = skip_fields x (suc b) c nc.run nd.dash

        four_text : take d x ≡ take a x ++ 45 ∷ part x (suc a) b ++ 45 ∷ part x (suc b) c ++ 45 ∷ part x (suc c) d
        four_text =
            let p = take_step x c d 45 nd.dash (byte_inside x c 44 nd.dash) nd.run.low in
            let q = take_step x b c 45 nc.dash (byte_inside x b 44 nc.dash) nc.run.low in
            let r = take_step x a b 45 nb.dash (byte_inside x a 44 nb.dash) nb.run.low in
            rw (p, q, r) (simp append_assoc)

        part_some : (s e : ℕ) → s < e → e ≤ length x → T (not (empty (part x s e)))
        part_some s e l k = some_of (part x s e) (omega (arith, part_length x s e (omega arith) k))

        pub triple_found : any (same (take a x)) kinds ≡ true → Triple x d
        triple_found k = record {
          kind = take a x;
          arch = part x (suc a) b;
          vendor = part x (suc b) c;
          system = part x (suc c) d;
          start = suc c;
          kind_in = of_true (any (same (take a x)) kinds) k;
          arch_some = part_some (suc a) b nb.some nb.run.high;
          vendor_some = part_some (suc b) c nc.some nc.run.high;
          system_some = part_some (suc c) d nd.some nd.run.high;
          arch_bytes = nb.run.passed;
          vendor_bytes = nc.run.passed;
          system_is = refl;
          run = nd.run;
          text = four_text;
          fields_are = first_fields ∙ ap (λ l. part x 0 a ∷ l) second_fields ∙ ap (λ l. part x 0 a ∷ part x (suc a) b ∷ l) third_fields ∙ ap (λ k. k ∷ part x (suc a) b ∷ part x (suc b) c ∷ fields_of (drop (suc c) x)) (part_start x a);
          pieces_are = skip_pieces x 0 a h nb.dash ∙ skip_pieces x (suc a) b nb.run nc.dash ∙ skip_pieces x (suc b) c nc.run nd.dash;
        }
