-- The environment and the processor: what the scan finds after the first four fields. Assumes nothing.
use Rattle.std.proofs.Common.{◌≡◌, ℕ, suc, ◌<◌, ◌≤◌, Bool, true, false, not, T, ltb, List, [], ◌∷◌, ◌++◌, length, get_or, take, drop, replicate, sym, refl, ap, ◌∙◌, subst, append_assoc, append-nil, arith, ltb-false, ltb-true, le-ltb, lt-ltb}
use Rattle.wire.specs.Lists.{any, every}
use Rattle.entry_id.specs.Text.{split_on, join_with, not_colon}
use Rattle.wire.specs.Bytes.{same, empty}
use Rattle.wire.proofs.Bools.{by_bool, and_t, is_false}
use Rattle.entry_id.proofs.TextLaws.{join_split}
use Rattle.entry_id.proofs.ProcessorLaws.{named_more}
use Rattle.entry_id.specs.Meaning.{fields_of, pieces_of, field_byte, processor_byte, processor_shaped, names_processor, fifth_is_processor, meaning_of, meaning, six_fields, kinds, valid}
use Rattle.entry_id.specs.Canonical.{head_of}
use Rattle.entry_id.specs.Scan.{part, Run, ends_at, pieces_at}
use Rattle.canonical_form.specs.Heads.{Triple, ProcessorAt, HeadAt}
use Rattle.canonical_form.specs.declared.head.Head.{Head}
use Rattle.entry_id.proofs.RunLaws.{part_none, part-drop, part_length, part_cons, take_step, byte_inside, head_stops, head_part, pieces_part}
use Rattle.canonical_form.proofs.CutLaws.{first_through, skip_fields, skip_pieces, last_fields, bad_field}
use Rattle.canonical_form.proofs.HeadLaws.{valid-parts, valid-system, valid_fifth, not_t, no_field}

regroup : (k a v s e p : List ℕ) → k ++ a ++ v ++ s ++ e ++ p ≡ k ++ (a ++ (v ++ (s ++ (e ++ p))))
regroup k a v s e p = simp append_assoc

length_some : (l : List ℕ) → ltb 0 (length l) ≡ not (empty l)
unfolding empty
length_some [] = refl
length_some (y ∷ l) = lt-ltb 0 (suc (length l)) (omega arith)

-- ---- the head of what stands behind a place

-- its fields, joined again
join_fields : (y : List ℕ) → join_with 45 (fields_of y) ≡ head_of y
unfolding fields_of head_of
join_fields y = join_split 45 (get_or (split_on 58 y) 0 [])

-- it is not empty where its first field begins like a processor
named_some : (y : List ℕ) → names_processor (get_or (fields_of y) 0 []) ≡ true → true ≡ not (empty (head_of y))
unfolding fields_of head_of split_on names_processor empty same
named_some y = some (get_or (split_on 58 y) 0 [])
  where
    some : (h : List ℕ) → names_processor (get_or (split_on 45 h) 0 []) ≡ true → true ≡ not (empty h)
    some [] n = sym n
    some (b ∷ h) n = refl

-- ---- what the scan found

-- the head that was found
abbrev pub head : ℕ → ℕ → ℕ → Bool → Head
head at dashes stop processor = record { at = at; dashes = dashes; stop = stop; processor = processor }

module _ (x : List ℕ) (d : ℕ) (t : Triple x d) where
  -- six fields
  abbrev six_of : List ℕ → List ℕ → List (List ℕ)
  six_of e p = t.kind ∷ t.arch ∷ t.vendor ∷ t.system ∷ e ∷ p ∷ []

  module _ (e p : List ℕ) (f : six_fields (meaning x) ≡ six_of e p) (be : T (every field_byte e)) (bp : T (processor_shaped p)) where
    all_bytes : T (every (every field_byte) (t.arch ∷ t.vendor ∷ t.system ∷ e ∷ []))
    unfolding every
    all_bytes =
        let a = t.arch_bytes in
        let v = t.vendor_bytes in
        let s : T (every field_byte t.system) = rw t.system_is t.run.passed in
        let z : T true = tt in
        search and_t depth 10

    field-bytes_are : T (every (every field_byte) ((meaning x).arch ∷ (meaning x).vendor ∷ (meaning x).system ∷ (meaning x).environment ∷ []))
    unfolding six_fields
    field-bytes_are = subst (λ (l : List (List ℕ)). T (every (every field_byte) (take 4 (drop 1 l)))) (sym f) all_bytes

    form_is : join_with 45 (six_fields (meaning x)) ≡ take d x ++ 45 ∷ e ++ 45 ∷ p
    unfolding join_with
    form_is =
        let j : join_with 45 (six_of e p) ≡ t.kind ++ (45 ∷ (t.arch ++ (45 ∷ (t.vendor ++ (45 ∷ (t.system ++ (45 ∷ (e ++ (45 ∷ p))))))))) = refl in
        let w = ap (λ l. l ++ 45 ∷ e ++ 45 ∷ p) t.text ∙ regroup t.kind (45 ∷ t.arch) (45 ∷ t.vendor) (45 ∷ t.system) (45 ∷ e) (45 ∷ p) in
        ap (join_with 45) f ∙ j ∙ sym w

    pub head_at : (at dashes stop : ℕ) (proc : Bool) → proc ≡ not (empty p) → 4 ≤ length (fields_of x) → dashes ≤ 2 → at ≤ stop → stop ≤ length x → ends_at x stop ≡ true
        → take d x ++ 45 ∷ e ++ 45 ∷ p ≡ take at x ++ replicate dashes 45 ++ part x at stop → pieces_of x ≡ pieces_at x stop → HeadAt x (head at dashes stop proc)
    unfolding six_fields
    head_at at dashes stop proc q n few pl w en fo pi = record {
      kind_in = subst (λ (l : List (List ℕ)). T (any (same (get_or l 0 [])) kinds)) (sym f) t.kind_in;
      arch_some = subst (λ (l : List (List ℕ)). T (not (empty (get_or l 1 [])))) (sym f) t.arch_some;
      vendor_some = subst (λ (l : List (List ℕ)). T (not (empty (get_or l 2 [])))) (sym f) t.vendor_some;
      system_some = subst (λ (l : List (List ℕ)). T (not (empty (get_or l 3 [])))) (sym f) t.system_some;
      field_bytes_lem = field-bytes_are;
      processor_shaped_lem = subst (λ (l : List (List ℕ)). T (processor_shaped (get_or l 5 []))) (sym f) bp;
      proc_is = q ∙ ap (λ (l : List (List ℕ)). not (empty (get_or l 5 []))) (sym f);
      least = n;
      few = few;
      place = pl;
      within = w;
      ends = en;
      form = form_is ∙ fo;
      pieces_are = pi;
    }

  -- what is meant as the processor is none
  bad_processor : (e p : List ℕ) → six_fields (meaning x) ≡ six_of e p → processor_shaped p ≡ false → valid x ≡ false
  unfolding six_fields
  bad_processor e p f n = is_false (valid x) (λ v. not_t n (subst (λ (l : List (List ℕ)). T (processor_shaped (get_or l 5 []))) f (valid-parts x v).processor_shaped_lem))

  -- ---- four fields

  four_are : ends_at x d ≡ true → fields_of x ≡ t.kind ∷ t.arch ∷ t.vendor ∷ t.system ∷ []
  four_are e = t.fields_are ∙ ap (λ l. t.kind ∷ t.arch ∷ t.vendor ∷ l) ((last_fields x t.start d t.run e).0 ∙ ap (λ s. s ∷ []) (sym t.system_is))

  pub four : ends_at x d ≡ true → HeadAt x (head d 2 d false)
  unfolding meaning meaning_of six_fields fifth_is_processor names_processor processor_shaped same join_with every empty
  four e =
      let f = four_are e in
      head_at [] [] (rw f) tt tt d 2 d false refl (rw f (omega arith)) (omega arith) (omega arith) t.run.high e
      (rw (part_none x d) (append_assoc (take d x) (45 ∷ []) (45 ∷ []) ∙ sym (append-nil (take d x ++ 45 ∷ 45 ∷ [])))) (t.pieces_are ∙ (last_fields x t.start d t.run e).1)

  pub four_bad : (get_or x d 0 ≡ 45 → ⊥) → ends_at x d ≡ false → valid x ≡ false
  four_bad m e = is_false (valid x) (λ v.
      no_field _ (bad_field x t.start d t.run m e) (subst (λ (l : List (List ℕ)). T (every field_byte (get_or l 3 []))) t.fields_are (valid-system x v)))

-- ---- more fields

-- four fields, a '-', and a run of field bytes behind it
pub record Fifth (x : List ℕ) (d e : ℕ) : Type 0 where
  pub triple : Triple x d
  pub dash : get_or x d 0 ≡ 45
  pub run : Run field_byte x (suc d) e

module _ (x : List ℕ) (d e : ℕ) (g : Fifth x d e) where
  abbrev t : Triple x d
  t = g.triple

  abbrev re : Run field_byte x (suc d) e
  re = g.run

  -- with more fields behind the four, and with the last two of six
  abbrev four_and : List (List ℕ) → List (List ℕ)
  four_and l = t.kind ∷ t.arch ∷ t.vendor ∷ t.system ∷ l

  abbrev six_with : List ℕ → List ℕ → List (List ℕ)
  six_with = six_of x d t

  more_are : fields_of x ≡ four_and (fields_of (drop (suc d) x))
  more_are = t.fields_are ∙ ap (λ l. t.kind ∷ t.arch ∷ t.vendor ∷ l) (skip_fields x t.start d t.run g.dash ∙ ap (λ s. s ∷ fields_of (drop (suc d) x)) (sym t.system_is))

  more_pieces : pieces_of x ≡ pieces_of (drop (suc d) x)
  more_pieces = t.pieces_are ∙ skip_pieces x t.start d t.run g.dash

  least : 4 ≤ length (fields_of x)
  least = rw more_are (omega arith)

  inside : d < length x
  inside = byte_inside x d 44 g.dash

  to_e : take e x ≡ take d x ++ 45 ∷ part x (suc d) e
  to_e = take_step x d e 45 g.dash inside re.low

  -- ---- the processor starts with the fifth field

  module _ (pr : names_processor (part x (suc d) e) ≡ true) where
    fifth_named : names_processor (get_or (fields_of (drop (suc d) x)) 0 []) ≡ true
    fifth_named =
        ap (λ y. names_processor (get_or (fields_of y) 0 [])) (part-drop x (suc d) e re.low) ∙ ap names_processor (first_through (part x (suc d) e) (drop e x) re.passed)
        ∙ named_more (part x (suc d) e) (get_or (fields_of (drop e x)) 0 []) pr

    fifth_meant : six_fields (meaning x) ≡ six_with [] (head_of (drop (suc d) x))
    unfolding meaning meaning_of six_fields fifth_is_processor
    fifth_meant = rw (more_are, fifth_named) (ap (six_with []) (join_fields (drop (suc d) x)))

    pub fifth_bad : processor_shaped (head_of (drop (suc d) x)) ≡ false → valid x ≡ false
    fifth_bad = bad_processor x d t [] (head_of (drop (suc d) x)) fifth_meant

    pub fifth_proc : (p : ℕ) → ProcessorAt x (suc d) p → HeadAt x (head d 1 p true)
    unfolding every
    fifth_proc p h =
        let r = h.run in
        let hd = head_part x (suc d) p r in
        head_at x d t [] (part x (suc d) p) (fifth_meant ∙ ap (six_with []) hd) tt h.shaped
        d 1 p true (named_some (drop (suc d) x) fifth_named ∙ ap (λ l. not (empty l)) hd) least (omega arith) (omega (arith, r.low)) r.high (head_stops x (suc d) p r)
        (rw (part_cons x d p 45 g.dash inside r.low)) (more_pieces ∙ pieces_part x (suc d) p r)

  -- ---- the fifth field is the environment

  module _ (pr : names_processor (part x (suc d) e) ≡ false) where
    pub env_last : ends_at x e ≡ true → HeadAt x (head e 1 e false)
    unfolding meaning meaning_of six_fields fifth_is_processor processor_shaped join_with every empty
    env_last n =
        let f = more_are ∙ ap four_and (last_fields x (suc d) e re n).0 in
        head_at x d t (part x (suc d) e) [] (rw (f, pr)) re.passed tt e 1 e false refl least (omega arith) (omega arith) re.high n
        (rw (part_none x e, to_e) (sym (append-nil (take d x ++ 45 ∷ part x (suc d) e ++ 45 ∷ [])))) (more_pieces ∙ (last_fields x (suc d) e re n).1)

    pub env_bad : (get_or x e 0 ≡ 45 → ⊥) → ends_at x e ≡ false → valid x ≡ false
    env_bad m n = is_false (valid x) (λ v.
        not_t (bad_field x (suc d) e re m n) (subst (λ (l : List (List ℕ)). T (every processor_byte (get_or l 4 []))) more_are (valid_fifth x v)))

    -- ---- the processor starts with the sixth

    module _ (dash : get_or x e 0 ≡ 45) where
      sixth_meant : six_fields (meaning x) ≡ six_with (part x (suc d) e) (head_of (drop (suc e) x))
      unfolding meaning meaning_of six_fields fifth_is_processor
      sixth_meant = rw (more_are ∙ ap four_and (skip_fields x (suc d) e re dash), pr) (ap (six_with (part x (suc d) e)) (join_fields (drop (suc e) x)))

      pub sixth_bad : processor_shaped (head_of (drop (suc e) x)) ≡ false → valid x ≡ false
      sixth_bad = bad_processor x d t (part x (suc d) e) (head_of (drop (suc e) x)) sixth_meant

      module _ (p : ℕ) (h : ProcessorAt x (suc e) p) where
        abbrev rp : Run not_colon x (suc e) p
        rp = h.run

        to_p : take p x ≡ take e x ++ 45 ∷ part x (suc e) p
        to_p = take_step x e p 45 dash (byte_inside x e 44 dash) rp.low

        proc_there : ltb (suc e) p ≡ not (empty (part x (suc e) p))
        proc_there =
            let l = part_length x (suc e) p rp.low rp.high in
            by_bool (ltb (suc e) p)
            (λ b. b ∙ sym (sym (length_some (part x (suc e) p)) ∙ lt-ltb 0 (length (part x (suc e) p)) (omega (arith, l, ltb-true (suc e) p b))))
            (λ b. b ∙ sym (sym (length_some (part x (suc e) p)) ∙ le-ltb 0 (length (part x (suc e) p)) (omega (arith, l, ltb-false (suc e) p b))))

        pub sixth_proc : HeadAt x (head p 0 p (ltb (suc e) p))
        sixth_proc =
            head_at x d t (part x (suc d) e) (part x (suc e) p) (sixth_meant ∙ ap (six_with (part x (suc d) e)) (head_part x (suc e) p rp)) re.passed h.shaped
            p 0 p (ltb (suc e) p) proc_there least (omega arith) (omega arith) rp.high (head_stops x (suc e) p rp)
            (rw (part_none x p, to_p, to_e) (sym (append-nil _ ∙ append-nil _))) (more_pieces ∙ skip_pieces x (suc d) e re dash ∙ pieces_part x (suc e) p rp)
