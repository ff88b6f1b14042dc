-- Laws of the reader: it goes one binary at a time, stays where it is stopped, and reaches END exactly on the accepted sequences. Assumes nothing.
use Prim.Native.Nat.{ℕ, zero, suc, ◌+◌, ◌-◌, ◌<◌, ◌≤◌}
use native.Mathlib.Omega.{arith}
use native.Mathlib.Nat.{add-zero, zero-add}
use mathlib.Core.Path.{◌≡◌, refl, sym, ap, ◌∙◌}
use mathlib.Core.Bool.{Bool, true, false, or-true}
use mathlib.Core.List.{List, [], ◌∷◌}
use lib.ListN.{length, get_or, drop, length-drop, drop_of_length-le}
use lib.Seq.{drop-drop}
use lib.Dec.{leb, ltb, eqb}
use borrow.Author.Tests.{eq-eqb, eqb-true, eqb-false, ne_eqb, le-ltb, ltb-false, le-leb, lt-leb, leb-true, leb-false}
use Rattle.wire.specs.Bytes.{empty}
use Rattle.wire.specs.Stop.{Stop, ◌⨾◌, stop_if, stop_when}
use Rattle.wire.proofs.Bools.{by_bool, clash, and_both, both_and}
use Rattle.wire.proofs.StopLaws.{⨾-left, ⨾-right, ⨾-next, ⨾-stop, stop_if_no}
use Rattle.wire.specs.Limit.{limit}
use Rattle.offload_binary.specs.Binary.{handed, refused, no_binary, size_of, body_stop, binary_stop, binary}
use Rattle.offload_binary.specs.Reader.{past, next_stop, next, cursor_after, answer, binaries_only, accepted, binaries_from, binaries}
use Rattle.offload_binary.specs.SequenceTheorems.{AcceptedAtEnd, OneAfterAnother, ReadsAll, Stays}
use Rattle.offload_binary.specs.declared.Binary.{Binary}
use Rattle.offload_binary.specs.declared.Cursor.{Cursor}
use Rattle.offload_binary.proofs.BinaryLaws.{sized, length-own, start_is, size_is}

pub by_nat : {C : Type 0} (k : ℕ) → (k ≡ 0 → C) → ((j : ℕ) → k ≡ suc j → C) → C
by_nat zero z s = z refl
by_nat (suc k) z s = s k refl

-- ---- one call

-- what a reader that nothing stops has
pub record Goes (s : List ℕ) (c : Cursor) : Type 0 where
  pub within : length s ≤ limit
  pub more : (c.position ≡ length s) → ⊥
  pub few : c.taken < 64
  pub sound : (binary_stop (drop c.position s)).number ≡ 0

pub goes : (s : List ℕ) (c : Cursor) → (next_stop s c).number ≡ 0 → Goes s c
unfolding next_stop
goes s c e =
    let e₂ = ⨾-right _ _ e in
    let e₃ = ⨾-right _ _ e₂ in
    record {
      within = ltb-false _ _ (stop_if_no 0 _ (⨾-left _ _ e));
      more = eqb-false _ _ (stop_if_no 18 _ (⨾-left _ _ e₂));
      few = leb-false _ _ (stop_if_no 17 _ (⨾-left _ _ e₃));
      sound = ⨾-right _ _ e₃;
    }

pub goes_on : (s : List ℕ) (c : Cursor) → Goes s c → (next_stop s c).number ≡ 0
unfolding next_stop ◌⨾◌ stop_if stop_when
goes_on s c g = rw (le-ltb _ _ g.within, ne_eqb _ _ g.more, lt-leb _ _ g.few) g.sound

pub at_end : (s : List ℕ) (c : Cursor) → length s ≤ limit → c.position ≡ length s → (next_stop s c).number ≡ 19
unfolding next_stop stop_if stop_when ◌⨾◌
at_end s c within e = rw (le-ltb _ _ within, eq-eqb _ _ e)

pub next-go : (s : List ℕ) (c : Cursor) → (next_stop s c).number ≡ 0
    → next s c ≡ record { answer = handed (binary c.position (drop c.position s)); cursor = past s c }
unfolding next
next-go s c e = rw e

pub next-stop : (s : List ℕ) (c : Cursor) (k : ℕ) → (next_stop s c).number ≡ suc k
    → next s c ≡ record { answer = refused (suc k) c.position; cursor = c }
unfolding next
next-stop s c k e = rw e

pub number_is : (s : List ℕ) (c : Cursor) → (next s c).answer.number ≡ (next_stop s c).number
number_is s c = by_nat (next_stop s c).number (λ z. ap (λ x. x.answer.number) (next-go s c z) ∙ sym z) (λ k e. ap (λ x. x.answer.number) (next-stop s c k e) ∙ sym e)

-- END is given at the length alone: the other numbers of a call are lower
low_stop : (k : ℕ) (b : Bool) → (stop_if k b).number ≤ k
unfolding stop_if stop_when
low_stop k true = omega arith
low_stop k false = omega arith

low_both : (k : ℕ) (a b : Stop) → a.number ≤ k → b.number ≤ k → (a ⨾ b).number ≤ k
low_both k a b p q =
    by_nat a.number (λ z. omega (arith, ap (λ t. t.number) (⨾-next a b z))) (λ j e. omega (arith, ap (λ t. t.number) (⨾-stop a b j e)))

low_first : (j k : ℕ) (b : Bool) (t : Stop) → j ≤ k → t.number ≤ k → (stop_if j b ⨾ t).number ≤ k
low_first j k b t h l = low_both k (stop_if j b) t (omega (arith, low_stop j b)) l

binary_low : (b : List ℕ) → (binary_stop b).number ≤ 17
unfolding binary_stop body_stop
binary_low b = low_first 13 17 _ _ (omega arith) (low_first 14 17 _ _ (omega arith) (low_first 15 17 _ _ (omega arith) (low_first 16 17 _ _ (omega arith) (low_stop 17 _))))

used_up : (s : List ℕ) (c : Cursor) → (next_stop s c).number ≡ 19 → c.position ≡ length s
unfolding next_stop ◌⨾◌ stop_if stop_when
used_up s c e =
    by_bool (ltb limit (length s))
    (λ t. absurd (let z : ◌≡◌ {A = ℕ} 1 19 = rw t at e in omega arith))
    (λ f. by_bool (eqb c.position (length s))
    (λ t. eqb-true _ _ t)
    (λ g. by_bool (leb 64 c.taken)
    (λ t. absurd (let z : ◌≡◌ {A = ℕ} 18 19 = rw (f, g, t) at e in omega arith))
    (λ h. absurd (let z : (binary_stop (drop c.position s)).number ≡ 19 = rw (f, g, h) at e in omega (arith, binary_low (drop c.position s))))))

end_within : (s : List ℕ) (c : Cursor) → (next_stop s c).number ≡ 19 → length s ≤ limit
unfolding next_stop ◌⨾◌ stop_if stop_when
end_within s c e = by_bool (ltb limit (length s)) (λ t. absurd (let z : ◌≡◌ {A = ℕ} 1 19 = rw t at e in omega arith)) (λ f. ltb-false _ _ f)

-- ---- the definition of an accepted sequence, unfolded once

pub from_none : (from : ℕ) (b : List ℕ) → binaries_from 0 from b ≡ []
unfolding binaries_from
from_none from b = refl

pub from_empty : (n from : ℕ) (b : List ℕ) → empty b ≡ true → binaries_from (suc n) from b ≡ []
unfolding binaries_from
from_empty n from b e = rw (e, binaries_from)

pub from_more : (n from : ℕ) (b : List ℕ) → empty b ≡ false → binaries_from (suc n) from b ≡ binary from b ∷ binaries_from n (from + size_of b) (drop (size_of b) b)
unfolding binaries_from
from_more n from b e = rw (e, binaries_from)

pub from_few : (n from : ℕ) (b : List ℕ) → length (binaries_from n from b) ≤ n
from_few zero from b = omega (arith, ap length (from_none from b))
from_few (suc n) from b =
    by_bool (empty b)
    (λ t. omega (arith, ap length (from_empty n from b t)))
    (λ f. omega (arith, ap length (from_more n from b f), from_few n (from + size_of b) (drop (size_of b) b)))

pub only_more : (n : ℕ) (b : List ℕ) → empty b ≡ false → binaries_only (suc n) b ≡ true → ((binary_stop b).number ≡ 0) × (binaries_only n (drop (size_of b) b) ≡ true)
unfolding binaries_only
only_more n b f e = let p = and_both _ _ (rw (f, binaries_only) at e) in (eqb-true _ _ p.0, p.1)

pub none_only : (n : ℕ) (b : List ℕ) → empty b ≡ true → binaries_only n b ≡ true
unfolding binaries_only
none_only zero b e = e
none_only (suc n) b e = rw (e, binaries_only)

pub more_only : (n : ℕ) (b : List ℕ) → (binary_stop b).number ≡ 0 → binaries_only n (drop (size_of b) b) ≡ true → binaries_only (suc n) b ≡ true
unfolding binaries_only
more_only n b e r = rw (eq-eqb _ _ e, r, binaries_only) (or-true (empty b))

-- ---- call after call, on one sequence

module _ (s : List ℕ) where
  pub at_length : (k : ℕ) → k ≤ length s → empty (drop k s) ≡ true → k ≡ length s
  at_length k h e = none (drop k s) (length-drop k s) e
    where
      none : (b : List ℕ) → length b ≡ length s - k → empty b ≡ true → k ≡ length s
      none [] l e = omega arith
      none (x ∷ b) l e = clash true refl (sym e ∙ (unfold empty in refl))

  past_end : (k : ℕ) → length s ≤ k → empty (drop k s) ≡ true
  past_end k h = ap empty (drop_of_length-le s {i = k} h) ∙ (unfold empty in refl)

  abbrev at : ℕ → ℕ
  at n = (cursor_after n s).position

  stop_of : (n : ℕ) → (answer s n).number ≡ (next_stop s (cursor_after n s)).number
  unfolding answer
  stop_of n = number_is s (cursor_after n s)

  answer-go : (n : ℕ) → (answer s n).number ≡ 0 → answer s n ≡ handed (binary (at n) (drop (at n) s))
  unfolding answer
  answer-go n e = ap (λ x. x.answer) (next-go s (cursor_after n s) (sym (stop_of n) ∙ e))

  answer-stop : (n k : ℕ) → (next_stop s (cursor_after n s)).number ≡ suc k → answer s n ≡ refused (suc k) (at n)
  unfolding answer
  answer-stop n k e = ap (λ x. x.answer) (next-stop s (cursor_after n s) k e)

  -- call n hands back a binary
  module _ (n : ℕ) (e : (answer s n).number ≡ 0) where
    fine : Goes s (cursor_after n s)
    fine = goes s (cursor_after n s) (sym (stop_of n) ∙ e)

    binary_is : (answer s n).binary ≡ binary (at n) (drop (at n) s)
    binary_is = ap (λ a. a.binary) (answer-go n e)

    starts : (answer s n).binary.start ≡ at n
    starts = ap (λ b. b.start) binary_is ∙ start_is (at n) (drop (at n) s)

    goes_past : cursor_after (suc n) s ≡ past s (cursor_after n s)
    unfolding cursor_after
    goes_past = ap (λ x. x.cursor) (next-go s (cursor_after n s) (sym (stop_of n) ∙ e))

    at_next : at (suc n) ≡ at n + size_of (drop (at n) s)
    unfolding past
    at_next = ap (λ c. c.position) goes_past

    taken_next : (cursor_after (suc n) s).taken ≡ (cursor_after n s).taken + 1
    unfolding past
    taken_next = ap (λ c. c.taken) goes_past

    sizes : (answer s n).binary.size ≡ size_of (drop (at n) s)
    sizes = ap (λ b. b.size) binary_is ∙ size_is (at n) (drop (at n) s) ∙ length-own (drop (at n) s) (sized _ fine.sound).inside

    follows : at (suc n) ≡ (answer s n).binary.start + (answer s n).binary.size
    follows = omega (arith, at_next, starts, sizes)

  -- call n hands back none
  module _ (n : ℕ) (e : (answer s n).number ≡ 0 → ⊥) where
    place_is : (answer s n).place ≡ at n
    place_is =
        by_nat (next_stop s (cursor_after n s)).number
        (λ z. absurd (e (stop_of n ∙ z)))
        (λ k q. ap (λ a. a.place) (answer-stop n k q))

    stays_there : cursor_after (suc n) s ≡ cursor_after n s
    unfolding cursor_after
    stays_there =
        by_nat (next_stop s (cursor_after n s)).number
        (λ z. absurd (e (stop_of n ∙ z)))
        (λ k q. ap (λ x. x.cursor) (next-stop s (cursor_after n s) k q))

    same-again : answer s (suc n) ≡ answer s n
    unfolding answer
    same-again = ap (λ c. (next s c).answer) stays_there

  pub stays : Stays s
  stays n zero e = let z = add-zero n in (ap (λ k. cursor_after k s) z, ap (answer s) z)
  stays n (suc k) e =
      let i = stays n k e in
      let no : (answer s (n + k)).number ≡ 0 → ⊥ = λ z. e (ap (λ a. a.number) (sym i.1) ∙ z) in
      let z : n + suc k ≡ suc (n + k) = omega arith in
      (ap (λ m. cursor_after m s) z ∙ stays_there (n + k) no ∙ i.0, ap (answer s) z ∙ same-again (n + k) no ∙ i.1)

  earlier_ok : (n : ℕ) → (answer s (suc n)).number ≡ 0 → (answer s n).number ≡ 0
  earlier_ok n e =
      by_nat (answer s n).number (λ z. z)
      (λ k q. absurd (let no : (answer s n).number ≡ 0 → ⊥ = λ z. omega (arith, q, z) in no (ap (λ a. a.number) (sym (same-again n no)) ∙ e)))

  at_end_is : (n : ℕ) → (answer s n).number ≡ 19 → at n ≡ length s
  at_end_is n e = used_up s (cursor_after n s) (sym (stop_of n) ∙ e)

  pub one_after_another : OneAfterAnother s
  unfolding cursor_after
  one_after_another = record {
    first = λ e. starts 0 e;
    next = λ n e. let e' = earlier_ok n e in (e', starts (suc n) e ∙ follows n e');
    each = λ n e.
        (ap (λ k. (binary_stop (drop k s)).number) (starts n e) ∙ (fine n e).sound, binary_is n e ∙ ap (λ k. binary k (drop k s)) (sym (starts n e)));
    first_stop = λ no. place_is 0 no;
    stop = λ n e no. place_is (suc n) no ∙ follows n e;
    end = λ n e. place_is n (λ z. omega (arith, e, z)) ∙ at_end_is n e;
  }

  -- ---- accepted

  -- from call n on: the binaries of l, then END
  record Reads (n : ℕ) (l : List Binary) : Type 0 where
    each : (i : ℕ) → i < length l → answer s (n + i) ≡ handed (get_or l i no_binary)
    end : (i : ℕ) → length l ≤ i → answer s (n + i) ≡ refused 19 (length s)

  module _ (within : length s ≤ limit) where
    -- used up: END, again and again
    reads_none : (n : ℕ) → at n ≡ length s → Reads n []
    reads_none n e =
        let this = answer-stop n 18 (at_end s (cursor_after n s) within e) ∙ ap (refused 19) e in
        record {
          each = λ i h. absurd (omega arith);
          end = λ i h. (stays n i (λ z. omega (arith, ap (λ a. a.number) this, z))).1 ∙ this;
        }

    reads_more : (n : ℕ) (l : List Binary) → (answer s n).number ≡ 0 → Reads (suc n) l → Reads n (binary (at n) (drop (at n) s) ∷ l)
    reads_more n l e r = record { each = each_of; end = end_of }
      where
        each_of : (i : ℕ) → i < suc (length l) → answer s (n + i) ≡ handed (get_or (binary (at n) (drop (at n) s) ∷ l) i no_binary)
        each_of zero h = ap (answer s) (add-zero n) ∙ answer-go n e
        each_of (suc i) h = let z : n + suc i ≡ suc n + i = omega arith in ap (answer s) z ∙ r.each i (omega arith)

        end_of : (i : ℕ) → suc (length l) ≤ i → answer s (n + i) ≡ refused 19 (length s)
        end_of zero h = absurd (omega arith)
        end_of (suc i) h = let z : n + suc i ≡ suc n + i = omega arith in ap (answer s) z ∙ r.end i (omega arith)

    -- the reader follows the definition: k binaries more may come
    reads : (k n : ℕ) → n + k ≡ 64 → (cursor_after n s).taken ≡ n → at n ≤ length s → binaries_only k (drop (at n) s) ≡ true → Reads n (binaries_from k (at n) (drop (at n) s))
    reads zero n few count inside e = rw (from_none (at n) (drop (at n) s)) (reads_none n (at_length (at n) inside (unfold binaries_only in e)))
    reads (suc k) n few count inside e =
        by_bool (empty (drop (at n) s))
        (λ t. rw (from_empty k (at n) (drop (at n) s) t) (reads_none n (at_length (at n) inside t)))
        (λ f.
        let b = drop (at n) s in
        let both = only_more k b f e in
        let g : Goes s (cursor_after n s) = record {
          within = within;
          more = λ z. clash (empty b) (past_end (at n) (omega arith)) f;
          few = omega arith;
          sound = both.0;
        } in
        let ok : (answer s n).number ≡ 0 = stop_of n ∙ goes_on s (cursor_after n s) g in
        let to : at (suc n) ≡ at n + size_of b = at_next n ok in
        let rest : drop (at (suc n)) s ≡ drop (size_of b) b = ap (λ j. drop j s) to ∙ sym (drop-drop (size_of b) (at n) s) in
        let fits : size_of b ≤ length s - at n = omega (arith, (sized b both.0).inside, length-drop (at n) s) in
        rw (from_more k (at n) b f)
        (reads_more n _ ok
        (rw (← to, ← rest) (reads k (suc n) (omega arith) (omega (arith, taken_next n ok)) (omega (arith, to, fits)) (ap (binaries_only k) rest ∙ both.1)))))

  -- END was reached: the calls before it handed back binaries
  record Reached : Type 0 where
    calls : ℕ
    ends : (answer s calls).number ≡ 19
    before : (i : ℕ) → i < calls → (answer s i).number ≡ 0

  all_before : (n : ℕ) → (answer s n).number ≡ 0 → (i : ℕ) → i ≤ n → (answer s i).number ≡ 0
  all_before zero e i h = let z : i ≡ 0 = omega arith in ap (λ k. (answer s k).number) z ∙ e
  all_before (suc n) e i h =
      by_bool (leb i n)
      (λ t. all_before n (earlier_ok n e) i (leb-true i n t))
      (λ f. let z : i ≡ suc n = omega (arith, leb-false i n f) in ap (λ k. (answer s k).number) z ∙ e)

  reached : (n : ℕ) → (answer s n).number ≡ 19 → Reached
  reached zero e = record { calls = 0; ends = e; before = λ i h. absurd (omega arith) }
  reached (suc n) e =
      by_nat (answer s n).number
      (λ z. record { calls = suc n; ends = e; before = λ i h. all_before n z i (omega arith) })
      (λ k q. reached n (ap (λ a. a.number) (sym (same-again n (λ z. omega (arith, q, z)))) ∙ e))

  module _ (r : Reached) where
    counts : (i : ℕ) → i ≤ r.calls → (cursor_after i s).taken ≡ i
    unfolding cursor_after
    counts zero h = refl
    counts (suc i) h = omega (arith, taken_next i (r.before i (omega arith)), counts i (omega arith))

    -- backwards from END
    only : (k i : ℕ) → i + k ≡ r.calls → binaries_only (64 - i) (drop (at i) s) ≡ true
    only zero i e = let z : i ≡ r.calls = omega arith in none_only (64 - i) (drop (at i) s) (past_end (at i) (omega (arith, ap at z, at_end_is r.calls r.ends)))
    only (suc k) i e =
        let ok = r.before i (omega arith) in
        let few : i < 64 = omega (arith, (fine i ok).few, counts i (omega arith)) in
        let fuel : 64 - i ≡ suc (64 - suc i) = omega arith in
        ap (λ n. binaries_only n (drop (at i) s)) fuel
        ∙ more_only (64 - suc i) (drop (at i) s) (fine i ok).sound
        (ap (binaries_only (64 - suc i)) (drop-drop (size_of (drop (at i) s)) (at i) s ∙ ap (λ j. drop j s) (sym (at_next i ok))) ∙ only k (suc i) (omega arith))

  all : accepted s ≡ true → Reads 0 (binaries s)
  unfolding accepted binaries cursor_after
  all e = let p = and_both _ _ e in reads (leb-true _ _ p.0) 64 0 (omega arith) refl (omega arith) p.1

  pub reads_all : accepted s ≡ true → ReadsAll s
  reads_all e =
      let r = all e in
      record {
        each = λ n h. ap (answer s) (sym (zero-add n)) ∙ r.each n h;
        end = λ n h. ap (answer s) (sym (zero-add n)) ∙ r.end n h;
      }

  at_end_accepted : Reached → accepted s ≡ true
  unfolding accepted cursor_after
  at_end_accepted r = both_and _ _ (le-leb _ _ (end_within s _ (sym (stop_of r.calls) ∙ r.ends))) (only r r.calls 0 (zero-add r.calls))

  pub accepted_at_end : AcceptedAtEnd s
  accepted_at_end = (
    (λ e. (length (binaries s), ap (λ a. a.number) ((reads_all e).end (length (binaries s)) (omega arith)))),
    (λ h. at_end_accepted (reached h.0 h.1)),
  )
