-- The call that recovers: what refuses it, and what it then returns and leaves. Assumes nothing.
use Prim.Native.Nat.{ℕ, suc, ◌+◌, ◌<◌, ◌≤◌}
use native.Mathlib.Omega.{arith}
use mathlib.Core.Logic.{inl, inr}
use mathlib.Core.Path.{◌≡◌, refl, sym, ap, ◌∙◌}
use mathlib.Core.Bool.{true, false, ◌||◌}
use mathlib.Core.List.{List, [], ◌∷◌, ◌++◌, map}
use lib.ListN.{length, get_or, drop, length-append, length-take, length-drop, length-map}
use lib.Dec.{leb, ltb, eqb}
use borrow.Author.Tests.{le-ltb, lt-ltb, leb-true, eqb-false}
use Rattle.wire.specs.Limit.{limit}
use Rattle.wire.specs.Lists.{joined}
use Rattle.wire.specs.Stop.{Stop, go, stop, ◌⨾◌, stop_if, stop_when, unrefused, over}
use Rattle.wire.proofs.Bools.{by_lt, and_both, or_l, or_r, of_true, is_true}
use Rattle.wire.proofs.StopLaws.{output-go, output-stop}
use Rattle.offload_binary.specs.Binary.{bytes_at, no_part}
use Rattle.offload_binary.specs.Reader.{binaries_only, accepted, binaries, part_of, end_to_end}
use Rattle.offload_binary.specs.SequenceTheorems.{All, IsBinary, LaysOut}
use Rattle.offload_binary.specs.Recovery.{takes, taken, gap, skips, skipped, copied, span_row, recover_stop, recover, copied_to, skipped_to}
use Rattle.offload_binary.specs.RecoveryTheorems.{TakenFrom, EndsBefore, TailCall, TailOut, not_recovered, Fits, RecoverExact}
use Rattle.offload_binary.specs.declared.Part.{Part}
use Rattle.offload_binary.specs.declared.Recovered.{Recovered}
use Rattle.offload_binary.proofs.ReaderLaws.{from_few}
use Rattle.offload_binary.proofs.Sequences.{lays_out}
use Rattle.offload_binary.proofs.RecoveryLaws.{lies, takes_from, gap_yes, gap_no, skips_nil, skips_cons}
use Rattle.offload_binary.proofs.TailLaws.{unchanged, tail_out}

-- ---- how much there is

pub length_part : (s : List ℕ) (c : Part) → c.start + c.len ≤ length s → length (bytes_at s c) ≡ c.len
unfolding bytes_at
length_part s c h = omega (arith, length-take c.len (drop c.start s), length-drop c.start s)

parts_fit : (s : List ℕ) (cursor : ℕ) (cs : List Part) → cursor ≤ length s → TakenFrom s cursor cs → cursor + length (joined (bytes_at s) cs) ≤ length s
unfolding joined
parts_fit s cursor [] h t = omega arith
parts_fit s cursor (c ∷ cs) h t =
    let q : c.start + c.len ≤ length s = (lies s c t.0.is_binary).inside in
    omega (arith, t.0.from, length-append (bytes_at s c) (joined (bytes_at s) cs), length_part s c q, parts_fit s (c.start + c.len) cs q t.1)

pub copied-fits : (s : List ℕ) → length (copied s) ≤ length s
unfolding copied end_to_end taken
copied-fits s = omega (arith, parts_fit s 0 (takes 65 s 0) (omega arith) (takes_from 65 s 0))

gap_few : (from to : ℕ) → length (gap from to) ≤ 1
gap_few from to = by_lt from to (λ l. omega (arith, ap length (gap_yes from to l))) (λ l. omega (arith, ap length (gap_no from to l)))

skips_few : (end cursor : ℕ) (cs : List Part) → length (skips end cursor cs) ≤ length cs + 1
skips_few end cursor [] = omega (arith, ap length (skips_nil end cursor), gap_few cursor end)
skips_few end cursor (c ∷ cs) =
    omega (arith, ap length (skips_cons end cursor c cs), length-append (gap cursor c.start) (skips end (c.start + c.len) cs), gap_few cursor c.start, skips_few end (c.start + c.len) cs)

pub skipped_few : (s : List ℕ) → length (skipped s) ≤ length (taken s) + 1
unfolding skipped
skipped_few s = skips_few (length s) 0 (taken s)

all_binaries : (s : List ℕ) (cursor : ℕ) (cs : List Part) → TakenFrom s cursor cs → All (IsBinary s) cs
all_binaries s cursor [] t = tt
all_binaries s cursor (c ∷ cs) t = (t.0.is_binary, all_binaries s (c.start + c.len) cs t.1)

-- ---- what refuses the call

module _ (s : List ℕ) (room spans : ℕ) where
  abbrev t : Stop
  t = recover_stop s room spans

  pub stop-long : limit < length s → t ≡ stop 1 0
  unfolding recover_stop stop_if stop_when ◌⨾◌
  stop-long h = rw (lt-ltb _ _ h)

  module _ (within : length s ≤ limit) where
    pub stop-many : 64 < length (taken s) → t ≡ stop 18 (get_or (taken s) 64 no_part).start
    unfolding recover_stop stop_if stop_when ◌⨾◌
    stop-many h = rw (le-ltb _ _ within, lt-ltb _ _ h)

    module _ (few : length (taken s) ≤ 64) where
      no_room : (ltb room (length (copied s)) || ltb spans (length (skipped s))) ≡ true → t ≡ stop 12 0
      unfolding recover_stop stop_if stop_when ◌⨾◌
      no_room e = rw (le-ltb _ _ within, le-ltb _ _ few, e)

      pub stop-copies : room < length (copied s) → t ≡ stop 12 0
      stop-copies h = no_room (is_true _ (or_l (ltb room (length (copied s))) (ltb spans (length (skipped s))) (of_true _ (lt-ltb _ _ h))))

      pub stop-spans : spans < length (skipped s) → t ≡ stop 12 0
      stop-spans h = no_room (is_true _ (or_r (ltb room (length (copied s))) (ltb spans (length (skipped s))) (of_true _ (lt-ltb _ _ h))))

      pub stop-none : length (copied s) ≤ room → length (skipped s) ≤ spans → t ≡ go
      unfolding recover_stop stop_if stop_when ◌⨾◌
      stop-none h k = rw (le-ltb _ _ within, le-ltb _ _ few, le-ltb _ _ h, le-ltb _ _ k)

  pub answer-stop : (k place : ℕ) → t ≡ stop (suc k) place → recover s room spans ≡ not_recovered (suc k) place
  unfolding recover unrefused
  answer-stop k place e = rw (e, recover)

  pub answer-go : t ≡ go → recover s room spans ≡ record { number = 0; place = 0; length = length (copied s); spans = length (skipped s) }
  unfolding recover unrefused
  answer-go e = rw (e, recover)

-- ---- what is left of the outputs

module _ (s out : List ℕ) (spans : List (List ℕ)) where
  abbrev r : Stop
  r = recover_stop s (length out) (length spans)

  pub copies-stop : (k place : ℕ) → r ≡ stop (suc k) place → copied_to s (length spans) out ≡ out
  unfolding copied_to
  copies-stop k place e = output-stop r (copied s) out k (ap (λ t. t.number) e)

  pub copies-go : r ≡ go → copied_to s (length spans) out ≡ over (copied s) out
  unfolding copied_to
  copies-go e = output-go r (copied s) out (ap (λ t. t.number) e)

  pub spans-stop : (k place : ℕ) → r ≡ stop (suc k) place → skipped_to s (length out) spans ≡ spans
  unfolding skipped_to
  spans-stop k place e = output-stop r (map span_row (skipped s)) spans k (ap (λ t. t.number) e)

  pub spans-go : r ≡ go → skipped_to s (length out) spans ≡ over (map span_row (skipped s)) spans
  unfolding skipped_to
  spans-go e = output-go r (map span_row (skipped s)) spans (ap (λ t. t.number) e)

  -- the four cases
  abbrev answer : Recovered
  answer = recover s (length out) (length spans)

  room_or : {C : Type 0} → (length (copied s) ≤ length out → length (skipped s) ≤ length spans → C) → (length out < length (copied s) → C) → (length spans < length (skipped s) → C) → C
  room_or f c l = by_lt (length out) (length (copied s)) c (λ a. by_lt (length spans) (length (skipped s)) l (λ b. f a b))

  stop_room : (w : length s ≤ limit) (few : length (taken s) ≤ 64) → (Fits s out spans → ⊥) → r ≡ stop 12 0
  stop_room w few short = room_or (λ a b. absurd (short (record { copies = a; list = b }))) (stop-copies s _ _ w few) (stop-spans s _ _ w few)

  by_case : {C : Type 0} → (limit < length s → C) → (length s ≤ limit → 64 < length (taken s) → C)
      → (length s ≤ limit → length (taken s) ≤ 64 → (Fits s out spans → ⊥) → C) → (length s ≤ limit → length (taken s) ≤ 64 → Fits s out spans → C) → C
  by_case long many none fits =
      by_lt limit (length s) long
      (λ w. by_lt 64 (length (taken s)) (many w)
      (λ few. room_or
      (λ a b. fits w few (record { copies = a; list = b }))
      (λ h. none w few (λ f. omega (arith, h, f.copies)))
      (λ h. none w few (λ f. omega (arith, h, f.list)))))

  is_long : limit < length s → answer ≡ not_recovered 1 0
  is_long h = answer-stop s _ _ 0 0 (stop-long s _ _ h)

  is_many : length s ≤ limit → 64 < length (taken s) → answer ≡ not_recovered 18 (get_or (taken s) 64 no_part).start
  is_many w h = answer-stop s _ _ 17 _ (stop-many s _ _ w h)

  is_none : length s ≤ limit → length (taken s) ≤ 64 → (Fits s out spans → ⊥) → answer ≡ not_recovered 12 0
  is_none w few short = answer-stop s _ _ 11 0 (stop_room w few short)

  is_go : length s ≤ limit → length (taken s) ≤ 64 → Fits s out spans → r ≡ go
  is_go w few f = stop-none s _ _ w few f.copies f.list

  is_recovered : length s ≤ limit → length (taken s) ≤ 64 → Fits s out spans → answer ≡ record { number = 0; place = 0; length = length (copied s); spans = length (skipped s) }
  is_recovered w few f = answer-go s _ _ (is_go w few f)

  -- two answers with different numbers
  other : {C : Type 0} (a b : Recovered) → answer ≡ a → answer ≡ b → eqb a.number b.number ≡ false → C
  other a b e f n = absurd (eqb-false _ _ n (ap (λ x. x.number) (sym e ∙ f)))

  accepted-fits : accepted s ≡ true → length s ≤ length out → (length s ≤ limit) × (length (taken s) ≤ 64) × Fits s out spans
  unfolding accepted binaries
  accepted-fits e h =
      let u = unchanged s e in (
        leb-true _ _ (and_both (leb (length s) limit) (binaries_only 64 s) e).0,
        omega (arith, ap length u.parts, length-map (binaries s) part_of, from_few 64 0 s),
        record { copies = omega (arith, ap length u.bytes); list = omega (arith, ap length u.nothing) },
      )

  -- not refused
  module _ (e : answer.number ≡ 0) where
    pub fits : (length s ≤ limit) × (length (taken s) ≤ 64) × Fits s out spans
    fits =
        by_case
        (λ h. absurd (omega (arith, e, ap (λ x. x.number) (is_long h))))
        (λ w h. absurd (omega (arith, e, ap (λ x. x.number) (is_many w h))))
        (λ w few short. absurd (omega (arith, e, ap (λ x. x.number) (is_none w few short))))
        (λ w few f. (w, few, f))

    pub goes : r ≡ go
    goes = is_go fits.0 fits.1 fits.2

    lays : LaysOut s (taken s)
    unfolding taken copied
    lays = lays_out s (takes 65 s 0) (all_binaries s 0 (takes 65 s 0) (takes_from 65 s 0)) fits.1 (omega (arith, copied-fits s, fits.0))

  pub exact : RecoverExact s out spans
  exact = record {
    long = (
      (λ e. by_case (λ h. h) (λ w h. other _ _ e (is_many w h) refl) (λ w few short. other _ _ e (is_none w few short) refl) (λ w few f. other _ _ e (is_recovered w few f) refl)),
      is_long,
    );
    many = (
      (λ e. by_case (λ h. other _ _ e (is_long h) refl) (λ w h. (w, h)) (λ w few short. other _ _ e (is_none w few short) refl) (λ w few f. other _ _ e (is_recovered w few f) refl)),
      (λ p. is_many p.0 p.1),
    );
    no_room = (
      (λ e. by_case (λ h. other _ _ e (is_long h) refl) (λ w h. other _ _ e (is_many w h) refl) (λ w few short. (w, few, short)) (λ w few f. other _ _ e (is_recovered w few f) refl)),
      (λ p. is_none p.0 p.1 p.2),
    );
    recovered = (
      (λ e. by_case (λ h. other _ _ e (is_long h) refl) (λ w h. other _ _ e (is_many w h) refl) (λ w few short. other _ _ e (is_none w few short) refl) (λ w few f. (w, few, f))),
      (λ p. is_recovered p.0 p.1 p.2),
    );
    only = by_case
        (λ h. inr (inl (ap (λ x. x.number) (is_long h))))
        (λ w h. inr (inr (inl (ap (λ x. x.number) (is_many w h)))))
        (λ w few short. inr (inr (inr (ap (λ x. x.number) (is_none w few short)))))
        (λ w few f. inl (ap (λ x. x.number) (is_recovered w few f)));
    copies = λ e. copies-go (goes e);
    list = λ e. spans-go (goes e);
    kept = λ k e. by_case
        (λ h. let q = stop-long s _ _ h in (copies-stop 0 0 q, spans-stop 0 0 q))
        (λ w h. let q = stop-many s _ _ w h in (copies-stop 17 _ q, spans-stop 17 _ q))
        (λ w few short. let q = stop_room w few short in (copies-stop 11 0 q, spans-stop 11 0 q))
        (λ w few f. absurd (omega (arith, e, ap (λ x. x.number) (is_recovered w few f))));
    lays_out = lays;
    unchanged = λ e h.
        let u = unchanged s e in
        let p = accepted-fits e h in (
          is_recovered p.0 p.1 p.2 ∙ (let a = ap length u.bytes in let b = ap length u.nothing in λ i. record { number = 0; place = 0; length = a i; spans = b i }),
          copies-go (is_go p.0 p.1 p.2) ∙ ap (λ x. over x out) u.bytes,
        );
    enough = λ a b e. by_case
        (λ h. omega (arith, e, ap (λ x. x.number) (is_long h)))
        (λ w h. omega (arith, e, ap (λ x. x.number) (is_many w h)))
        (λ w few short. short (record { copies = omega (arith, copied-fits s); list = omega (arith, skipped_few s) }))
        (λ w few f. omega (arith, e, ap (λ x. x.number) (is_recovered w few f)));
  }

pub tail_call : (front tail out : List ℕ) (spans : List (List ℕ)) → accepted tail ≡ true → All (EndsBefore front tail) (taken (front ++ tail))
    → (recover (front ++ tail) (length out) (length spans)).number ≡ 0 → TailCall front tail out spans
tail_call front tail out spans acc ends e =
    let s : List ℕ = front ++ tail in
    let o : TailOut front tail = tail_out front tail acc ends (fits s out spans e).1 in
    record { out_is = o; copies = copies-go s out spans (goes s out spans e) ∙ ap (λ x. over x out) o.bytes }
