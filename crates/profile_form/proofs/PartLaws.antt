-- Where the parts of a canonical form stand. Assumes nothing.
use Prim.Native.Nat.{ℕ, ◌+◌, ◌-◌, ◌%◌, ◌^◌, ◌≤◌}
use native.Mathlib.Omega.{arith}
use mathlib.Core.Path.{◌≡◌, refl, sym, ap, ap₂, ◌∙◌, subst}
use mathlib.Core.Bool.{Bool, true, false, not, ◌&&◌, ◌||◌, cond}
use mathlib.Core.List.{List, [], ◌∷◌, ◌++◌, map, append_assoc, append-nil}
use lib.Dec.{T, eqb}
use lib.ListN.{length, take, drop, length-append, length-drop}
use lib.Seq.{take_at, drop_at}
use borrow.Author.Tests.{ne_eqb}
use Rattle.wire.specs.Lists.{any, every}
use Rattle.wire.specs.Bytes.{bytes, empty, same}
use Rattle.wire.proofs.Bools.{by_bool, and_l, and_r, and_both, and_true, and_false, or_true, cond_ind}
use Rattle.wire.proofs.ByteLaws.{length-empty, length_some, empty_nil, same_true}
use Rattle.entry_id.specs.Text.{join_with, not_colon}
use Rattle.entry_id.specs.Meaning.{Feature, Meaning, feature, pieces_of, meaning, piece, six_fields, canonical_of, name_byte, field_byte, processor_byte, shaped, valid, canon}
use Rattle.entry_id.specs.Compare.{compared_kind}
use Rattle.entry_id.specs.Canonical.{head_of, kind_part, after_kind, head_number, key_of, head_key}
use Rattle.entry_id.specs.Rules.{id_rules}
use Rattle.entry_id.specs.Scan.{part, Run}
use Rattle.entry_id.specs.Profile.{our_kinds, ours, supported, with_processor, profile_valid, profile_canon}
use Rattle.entry_id.proofs.TextLaws.{misses, every_start, split_skip, join_split}
use Rattle.entry_id.proofs.ReadBack.{Proper, parts, Plain, five_fields, proper-meaning, plain_meaning, canon_is, no_dash, kind-bytes, processor_plain, head_not_colon, pieces_back}
use Rattle.entry_id.proofs.KindLaws.{head_none, head_colon, head_start, pieces_start, kind-before, kind_head, after_head}
use Rattle.entry_id.proofs.RunLaws.{part_length, head_part, pieces_part}
use Rattle.entry_id.proofs.ProfileLaws.{as_before}
use Rattle.entry_id.proofs.RuleLaws.{named-valid, id_rules-reads}
use Rattle.canonical_form.specs.Made.{compared_length}
use Rattle.canonical_form.proofs.KeyLaws.{compared-length}
use Rattle.profile_form.specs.Parts.{behind, begins, past_arch, renamed, OursAt}
use Rattle.profile_form.proofs.WriteLaws.{card}

-- ---- fields

behind-field : (f s : List ℕ) → T (every field_byte f) → behind (f ++ 45 ∷ s) ≡ s
unfolding behind
behind-field f s t = rw (split_skip 45 field_byte no_dash f s t) (join_split 45 s)

-- ---- the beginning, field by field

fields_begin : (a b : List ℕ) (x p : List ℕ) → T (every field_byte a) → T (every field_byte b) → begins (b ++ 45 ∷ p) (a ++ 45 ∷ x) ≡ (same a b && begins p x)
unfolding begins same every
fields_begin [] [] x p s t = refl
fields_begin [] (y ∷ b) x p s t = rw (ne_eqb 45 y (λ e. no_dash (subst (λ z. T (field_byte z)) (sym e) (and_l (field_byte y) (every field_byte b) t))))
fields_begin (z ∷ a) [] x p s t = rw (misses 45 field_byte no_dash z (and_l (field_byte z) (every field_byte a) s))
fields_begin (z ∷ a) (y ∷ b) x p s t =
    by_bool (eqb z y)
    (λ e. rw e (fields_begin a b x p (and_r (field_byte z) (every field_byte a) s) (and_r (field_byte y) (every field_byte b) t)))
    (λ e. rw e)

-- ---- a canonical form, part by part

-- the features as they stand behind the head
tail : List Feature → List ℕ
tail [] = []
tail (f ∷ fs) = 58 ∷ piece f ++ tail fs

join_tail : (h : List ℕ) (fs : List Feature) → join_with 58 (h ∷ map piece fs) ≡ h ++ tail fs
unfolding join_with tail
join_tail h [] = sym (append-nil h)
join_tail h (f ∷ fs) = ap (λ t. h ++ 58 ∷ t) (join_tail (piece f) fs)

-- what stands behind the arch, with a processor p
behind_arch : Meaning → List ℕ → List ℕ
behind_arch m p = m.vendor ++ 45 ∷ (m.system ++ 45 ∷ (m.environment ++ 45 ∷ (p ++ tail m.features)))

-- what stands before the processor
front : Meaning → List ℕ
front m = m.kind ++ 45 ∷ (m.arch ++ 45 ∷ (m.vendor ++ 45 ∷ (m.system ++ 45 ∷ (m.environment ++ 45 ∷ []))))

module _ (m : Meaning) where
  head_front : (p : List ℕ) → join_with 45 (six_fields (with_processor m p)) ≡ front m ++ p
  unfolding front six_fields join_with
  head_front p = simp append_assoc

  form_front : (p : List ℕ) → canonical_of (with_processor m p) ≡ front m ++ (p ++ tail m.features)
  unfolding canonical_of
  form_front p =
      join_tail (join_with 45 (six_fields (with_processor m p))) m.features ∙ ap (λ h. h ++ tail m.features) (head_front p)
      ∙ append_assoc (front m) p (tail m.features)

  form-arch : canonical_of m ≡ m.kind ++ 45 ∷ (m.arch ++ 45 ∷ behind_arch m m.processor)
  form-arch = form_front m.processor ∙ by
    where
      by : front m ++ (m.processor ++ tail m.features) ≡ m.kind ++ 45 ∷ (m.arch ++ 45 ∷ behind_arch m m.processor)
      by = unfold front behind_arch in simp append_assoc

-- no head stands in the features
head_tail : (fs : List Feature) → head_of (tail fs) ≡ []
unfolding tail
head_tail [] = head_none
head_tail (f ∷ fs) = head_colon 58 (piece f ++ tail fs) refl

-- ---- kind and arch

amd : T (every field_byte (bytes "amdgcn"))
unfolding every field_byte name_byte
amd = tt

hip_bytes : T (every field_byte (bytes "hip")) × (T (every field_byte (bytes "hipv4")) × T (every field_byte (bytes "openmp")))
unfolding every field_byte name_byte
hip_bytes = (tt, (tt, tt))

none_of : (p q r a : Bool) → ◌≡◌ {A = ℕ} (cond (p && a) 11 (cond (q && a) 13 (cond (r && a) 14 0))) 0 → ((p || (q || (r || false))) && a) ≡ false
none_of p q r false e = and_false (p || (q || (r || false)))
none_of true q r true e = absurd (omega arith)
none_of false true r true e = absurd (omega arith)
none_of false false true true e = absurd (omega arith)
none_of false false false true e = refl

our_arch : Meaning → Bool
our_arch m = any (same m.kind) our_kinds && same m.arch (bytes "amdgcn")

module _ (m : Meaning) (h : Proper m) where
  arch_bytes : T (every field_byte m.arch)
  unfolding every
  arch_bytes = and_l (every field_byte m.arch) _ h.field_bytes_lem

  -- the form begins with a kind k and our arch
  begins-ours : (k : List ℕ) → T (every field_byte k) → begins (k ++ 45 ∷ (bytes "amdgcn" ++ 45 ∷ [])) (canonical_of m) ≡ (same m.kind k && same m.arch (bytes "amdgcn"))
  begins-ours k t =
      ap (begins (k ++ 45 ∷ (bytes "amdgcn" ++ 45 ∷ []))) (form-arch m)
      ∙ fields_begin m.kind k (m.arch ++ 45 ∷ behind_arch m m.processor) (bytes "amdgcn" ++ 45 ∷ []) (kind-bytes m.kind h.kind_in) t
      ∙ ap (λ b. same m.kind k && b) (fields_begin m.arch (bytes "amdgcn") (behind_arch m m.processor) [] arch_bytes amd ∙ last)
    where
      last : (same m.arch (bytes "amdgcn") && begins [] (behind_arch m m.processor)) ≡ same m.arch (bytes "amdgcn")
      last = unfold begins same in and_true (same m.arch (bytes "amdgcn"))

  module _ (k : List ℕ) (e : same m.kind k ≡ true) (f : same m.arch (bytes "amdgcn") ≡ true) where
    form-ours : canonical_of m ≡ (k ++ 45 ∷ (bytes "amdgcn" ++ 45 ∷ [])) ++ behind_arch m m.processor
    form-ours = form-arch m ∙ ap₂ (λ a b. a ++ 45 ∷ (b ++ 45 ∷ behind_arch m m.processor)) (same_true m.kind k e) (same_true m.arch (bytes "amdgcn") f) ∙ sym (append_assoc k (45 ∷ (bytes "amdgcn" ++ 45 ∷ [])) (behind_arch m m.processor))

    past-field : drop (length k + 8) (canonical_of m) ≡ behind_arch m m.processor
    past-field = ap (drop (length k + 8)) form-ours ∙ drop_at (k ++ 45 ∷ (bytes "amdgcn" ++ 45 ∷ [])) (behind_arch m m.processor) (length k + 8) (length-append k (45 ∷ (bytes "amdgcn" ++ 45 ∷ [])))

    past_here : past_arch (canonical_of m) ≡ length k + 8 → (drop (past_arch (canonical_of m)) (canonical_of m) ≡ behind_arch m m.processor) × (past_arch (canonical_of m) ≡ length m.kind + 8)
    past_here g = (ap (λ j. drop j (canonical_of m)) g ∙ past-field, g ∙ ap (λ l. length l + 8) (sym (same_true m.kind k e)))

  -- the tests as the code makes them
  past_tests : past_arch (canonical_of m)
      ≡ cond (same m.kind (bytes "hip") && same m.arch (bytes "amdgcn")) 11
      (cond (same m.kind (bytes "hipv4") && same m.arch (bytes "amdgcn")) 13
      (cond (same m.kind (bytes "openmp") && same m.arch (bytes "amdgcn")) 14 0))
  unfolding past_arch
  past_tests = rw (begins-ours (bytes "hip") hip_bytes.0, begins-ours (bytes "hipv4") hip_bytes.1.0, begins-ours (bytes "openmp") hip_bytes.1.1)

  past_no : past_arch (canonical_of m) ≡ 0 → our_arch m ≡ false
  unfolding our_arch any our_kinds
  past_no e = none_of (same m.kind (bytes "hip")) (same m.kind (bytes "hipv4")) (same m.kind (bytes "openmp")) (same m.arch (bytes "amdgcn")) (sym past_tests ∙ e)

  past_yes : (past_arch (canonical_of m) ≡ 0 → ⊥) → (our_arch m ≡ true) × (drop (past_arch (canonical_of m)) (canonical_of m) ≡ behind_arch m m.processor) × (past_arch (canonical_of m) ≡ length m.kind + 8)
  unfolding our_arch any our_kinds
  past_yes n =
      let p = same m.kind (bytes "hip") in
      let q = same m.kind (bytes "hipv4") in
      let r = same m.kind (bytes "openmp") in
      let a = same m.arch (bytes "amdgcn") in
      by_bool (p && a)
      (λ t. let (e, f) = and_both p a t in let (d, l) = past_here (bytes "hip") e f (past_tests ∙ rw t) in (rw (e, f), d, l))
      (λ u. by_bool (q && a)
      (λ t. let (e, f) = and_both q a t in let (d, l) = past_here (bytes "hipv4") e f (past_tests ∙ rw (u, t)) in (rw (e, f, or_true p), d, l))
      (λ v. by_bool (r && a)
      (λ t. let (e, f) = and_both r a t in let (d, l) = past_here (bytes "openmp") e f (past_tests ∙ rw (u, v, t)) in (rw (e, f, or_true q, or_true p), d, l))
      (λ w. absurd (n (past_tests ∙ rw (u, v, w))))))

-- ---- pieces

pub no_piece : (s x : Bool) (p : List ℕ) → length p ≡ 0 → supported s x (feature p) ≡ false
unfolding supported feature same
no_piece s x [] e = refl
no_piece s x (y ∷ p) e = absurd (omega arith)

-- ---- the parts that the code finds in a canonical form x

module _ (x : List ℕ) (again : canon x ≡ x) (some : empty x ≡ false) where
  right : T (valid x)
  unfolding id_rules
  right = named-valid id_rules-reads x (ap empty again ∙ some)

  abbrev m : Meaning
  m = meaning x

  good : Proper m
  good = parts m (proper-meaning x right)

  plain_here : Plain m
  plain_here = plain_meaning x right

  text : x ≡ canonical_of m
  text = sym again ∙ canon_is x right

  -- "All other IDs read as before."
  other : ours m ≡ false → profile_canon x ≡ x
  other e = (as_before x e).2 ∙ again

  arch-ours : ours m ≡ (our_arch m && not (empty m.processor))
  unfolding ours our_arch
  arch-ours = refl

  pub other_arch : past_arch x ≡ 0 → profile_canon x ≡ x
  other_arch e = other (arch-ours ∙ ap (λ b. b && not (empty m.processor)) (past_no m good (ap past_arch (sym text) ∙ e)))

  module _ (n : past_arch x ≡ 0 → ⊥) (at stop : ℕ) (low : at ≤ length x) (b : drop at x ≡ behind (behind (behind (drop (past_arch x) x)))) (s : Run not_colon x at stop) where
    found : (our_arch m ≡ true) × (drop (past_arch x) x ≡ behind_arch m m.processor) × (past_arch x ≡ length m.kind + 8)
    found = subst (λ z. (our_arch m ≡ true) × (drop (past_arch z) z ≡ behind_arch m m.processor) × (past_arch z ≡ length m.kind + 8)) (sym text) (past_yes m good (λ e. n (ap past_arch text ∙ e)))

    abbrev rest : List ℕ
    rest = tail m.features

    field : (f : List ℕ) (l : List (List ℕ)) → T (every (every field_byte) (f ∷ l)) → T (every field_byte f) × T (every (every field_byte) l)
    unfolding every
    field f l t = (and_l (every field_byte f) (every (every field_byte) l) t, and_r (every field_byte f) (every (every field_byte) l) t)

    at_processor : drop at x ≡ m.processor ++ rest
    unfolding behind_arch
    at_processor =
        let (fa, ta) = field m.arch _ good.field_bytes_lem in
        let (fv, tv) = field m.vendor _ ta in
        let (fs, ts) = field m.system _ tv in
        let (fe, te) = field m.environment _ ts in
        b ∙ ap (λ l. behind (behind (behind l))) found.1
        ∙ ap (λ l. behind (behind l)) (behind-field m.vendor (m.system ++ 45 ∷ (m.environment ++ 45 ∷ (m.processor ++ rest))) fv)
        ∙ ap behind (behind-field m.system (m.environment ++ 45 ∷ (m.processor ++ rest)) fs)
        ∙ behind-field m.environment (m.processor ++ rest) fe

    whole_text : x ≡ front m ++ (m.processor ++ rest)
    whole_text = text ∙ form_front m m.processor

    at_is : at ≡ length (front m)
    at_is = omega (arith, ap length whole_text ∙ length-append (front m) (m.processor ++ rest), ap length at_processor, length-drop at x)

    front_is : take at x ≡ front m
    front_is = ap (take at) whole_text ∙ take_at (front m) (m.processor ++ rest) at (sym at_is)

    front_plain : T (every not_colon (front m))
    front_plain = every_start not_colon (front m) m.processor (subst (λ l. T (every not_colon l)) (head_front m m.processor) (head_not_colon m plain_here))

    name_is : part x at stop ≡ m.processor
    name_is =
        sym (head_part x at stop s) ∙ ap head_of at_processor ∙ head_start m.processor (processor_plain m.processor plain_here.processor_bytes) rest
        ∙ ap (λ z. m.processor ++ z) (head_tail m.features) ∙ append-nil m.processor

    stop_is : stop ≡ at + length m.processor
    stop_is = omega (arith, part_length x at stop s.low s.high, ap length name_is, s.low)

    rest_is : drop stop x ≡ rest
    rest_is =
        ap (λ k. drop k x) (stop_is ∙ ap (λ k. k + length m.processor) at_is ∙ sym (length-append (front m) m.processor))
        ∙ ap (drop (length (front m ++ m.processor))) (whole_text ∙ sym (append_assoc (front m) m.processor rest)) ∙ drop_at (front m ++ m.processor) rest _ refl

    pub no_processor : stop ≡ at → profile_canon x ≡ x
    no_processor e = other (arch-ours ∙ ap (λ c. our_arch m && not c) (length-empty m.processor (omega (arith, stop_is, e))) ∙ and_false (our_arch m))

    -- the key with another processor
    module _ (p : List ℕ) (t : T (every processor_byte p)) where
      abbrev q : Meaning
      q = with_processor m p

      plain_other : Plain q
      unfolding five_fields
      plain_other = record {
        all_fields = plain_here.all_fields;
        environment_plain = plain_here.environment_plain;
        processor_bytes = t;
        all_named = plain_here.all_named;
        in_order = plain_here.in_order;
      }

      kind_here : kind_part (front m ++ p) ≡ m.kind
      unfolding front
      kind_here = ap kind_part (append_assoc m.kind (45 ∷ _) p) ∙ kind-before m.kind _ (kind-bytes m.kind good.kind_in)

      key_other : (kind : ℕ) → kind ≡ length m.kind → head_key (canonical_of q) ≡ (head_number (drop kind (front m ++ p)) + compared_length kind) % 2 ^ 64
      unfolding head_key key_of after_kind
      key_other kind e =
          let h = head_front m p in
          let k : kind_part (canonical_of q) ≡ m.kind = sym (kind_head q plain_other) ∙ ap kind_part h ∙ kind_here in
          let a : head_of (after_kind (canonical_of q)) ≡ drop kind (front m ++ p) = sym (after_head q plain_other) ∙ ap after_kind h ∙ ap (λ z. drop (length z) (front m ++ p)) kind_here ∙ ap (λ n. drop n (front m ++ p)) (sym e) in
          ap₂ (λ u v. (head_number u + v) % 2 ^ 64) a (ap (λ z. length (compared_kind z)) k ∙ compared-length m.kind good.kind_in ∙ ap compared_length (sym e))

    ours_at : (kind : ℕ) → kind ≡ past_arch x - 8 → (stop ≡ at → ⊥) → OursAt x (card kind at stop)
    unfolding renamed
    ours_at kind k z =
        let e : kind ≡ length m.kind = omega (arith, found.2) in
        let form : (p : List ℕ) → canonical_of (with_processor m p) ≡ take at x ++ p ++ drop stop x =
        λ p. form_front m p ∙ sym (append_assoc (front m) p rest) ∙ ap₂ (λ u v. u ++ p ++ v) (sym front_is) (sym rest_is) in
        record {
          right = right;
          again = again;
          is_ours = arch-ours ∙ ap₂ (λ c d. c && not d) found.0 (length_some m.processor (λ e. z (omega (arith, stop_is, e))));
          first = omega (arith, e, at_is, front_long);
          low = s.low;
          high = s.high;
          name = name_is;
          form = form;
          key = λ p t. ap head_key (sym (form p)) ∙ key_other p t kind e ∙ ap (λ u. (head_number (drop kind (u ++ p)) + compared_length kind) % 2 ^ 64) (sym front_is);
          pieces =
              sym (pieces_part x at stop s) ∙ sym (ap pieces_of (whole_text ∙ ap (λ l. front m ++ l) (sym at_processor)) ∙ pieces_start (front m) front_plain (drop at x))
              ∙ ap pieces_of text ∙ pieces_back m plain_here;
        }
      where
        front_long : length m.kind ≤ length (front m)
        front_long = unfold front in omega (arith, length-append m.kind (45 ∷ (m.arch ++ 45 ∷ (m.vendor ++ 45 ∷ (m.system ++ 45 ∷ (m.environment ++ 45 ∷ []))))))

-- ---- as `profile_of` goes

nil_form : profile_canon [] ≡ []
unfolding profile_canon profile_valid shaped
nil_form = refl

nil_arch : past_arch [] ≡ 0
unfolding past_arch begins same
nil_arch = refl

-- the kind stands before the arch and its '-'
pub arch-behind : (x : List ℕ) → (past_arch x ≡ 0 → ⊥) → 8 ≤ past_arch x
unfolding past_arch
arch-behind x n =
    let P : ℕ → Type 0 = λ k. (k ≡ 0 → ⊥) → 8 ≤ k in
    cond_ind P (begins (bytes "hip-amdgcn-") x) 11 _ (λ _. omega arith)
    (cond_ind P (begins (bytes "hipv4-amdgcn-") x) 13 _ (λ _. omega arith)
    (cond_ind P (begins (bytes "openmp-amdgcn-") x) 14 0 (λ _. omega arith) (λ z. absurd (z refl)))) n

pub keeps_other : (x : List ℕ) → canon x ≡ x → past_arch x ≡ 0 → profile_canon x ≡ x
keeps_other x again e =
    by_bool (empty x)
    (λ t. let n = empty_nil x t in ap profile_canon n ∙ nil_form ∙ sym n)
    (λ f. other_arch x again f e)

module _ (x : List ℕ) (again : canon x ≡ x) (arch vendor system at stop : ℕ) (a : arch ≡ past_arch x) (n : arch ≡ 0 → ⊥)
    (v : drop vendor x ≡ behind (drop arch x)) (s : drop system x ≡ behind (drop vendor x)) (p : drop at x ≡ behind (drop system x)) (low : at ≤ length x)
    (c : Run not_colon x at stop) where
  text_some : empty x ≡ false
  text_some = by_bool (empty x) (λ t. absurd (n (a ∙ ap past_arch (empty_nil x t) ∙ nil_arch))) (λ f. f)

  dashes : drop at x ≡ behind (behind (behind (drop (past_arch x) x)))
  dashes = p ∙ ap behind (s ∙ ap behind (v ∙ ap (λ k. behind (drop k x)) a))

  pub keeps_none : stop ≡ at → profile_canon x ≡ x
  keeps_none = no_processor x again text_some (λ e. n (a ∙ e)) at stop low dashes c

  pub finds_ours : (stop ≡ at → ⊥) → OursAt x (card (arch - 8) at stop)
  finds_ours = ours_at x again text_some (λ e. n (a ∙ e)) at stop low dashes c (arch - 8) (ap (λ k. k - 8) a)
