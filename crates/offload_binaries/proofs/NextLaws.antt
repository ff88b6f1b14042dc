-- One call of the reader, as code makes it. Assumes nothing.
use Prim.Native.Nat.{ℕ, suc, ◌+◌, ◌<◌, ◌≤◌}
use native.Mathlib.Omega.{arith}
use mathlib.Core.Path.{◌≡◌, refl, sym, ap, ◌∙◌}
use mathlib.Core.List.{List}
use lib.ListN.{length, drop, length-drop}
use borrow.Author.Tests.{lt-ltb, le-ltb, eq-eqb, ne_eqb, le-leb, lt-leb}
use Rattle.std.proofs.Common.{Ok, Err}
use Rattle.wire.specs.Stop.{◌⨾◌, stop_if, stop_when}
use Rattle.wire.specs.Limit.{limit}
use Rattle.wire.specs.Refusals.{number_of}
use Rattle.wire.specs.declared.Reason.{Reason}
use Rattle.wire.specs.declared.Reason.TheVariants as reasons
use Rattle.wire.specs.declared.Refusal.{Refusal}
use Rattle.offload_binary.specs.Binary.{handed, refused, answer_by, binary_at, size_of, binary_stop, binary}
use Rattle.offload_binary.specs.Reader.{past, next_stop, next}
use Rattle.offload_binary.specs.Results.{answer_of, step_of}
use Rattle.offload_binary.specs.declared.Binary.{Binary}
use Rattle.offload_binary.specs.declared.Cursor.{Cursor}
use Rattle.offload_binary.specs.declared.Answer.{Answer}
use Rattle.offload_binary.proofs.BinaryLaws.{sized, length-own, size_is}
use Rattle.offload_binary.proofs.ReaderLaws.{by_nat, next-go, next-stop}
use Rattle.offload_binary.proofs.ResultLaws.{number_some}

-- ---- one call

module _ (s : List ℕ) (c : Cursor) where
  -- a refusal where the reader stands
  abbrev Stopped : Reason → Type 0
  Stopped k = (r : Refusal) → r ≡ record { reason = k; place = c.position } → step_of c (Err r) ≡ next s c

  stopped : (k : ℕ) (reason : Reason) → number_of reason ≡ suc k → (next_stop s c).number ≡ suc k → Stopped reason
  stopped k reason n e r q = ap (λ x. step_of c (Err x)) q ∙ ap (λ m. record { answer = refused m c.position; cursor = c }) n ∙ sym (next-stop s c k e)

  stop-length : limit < length s → (next_stop s c).number ≡ 1
  unfolding next_stop ◌⨾◌ stop_if stop_when
  stop-length h = rw (lt-ltb _ _ h)

  pub call_length : limit < length s → Stopped reasons.Length
  call_length h = stopped 0 _ refl (stop-length h)

  module _ (within : length s ≤ limit) where
    stop_end : c.position ≡ length s → (next_stop s c).number ≡ 19
    unfolding next_stop ◌⨾◌ stop_if stop_when
    stop_end e = rw (le-ltb _ _ within, eq-eqb _ _ e)

    pub call_end : c.position ≡ length s → Stopped reasons.End
    call_end e = stopped 18 _ refl (stop_end e)

    module _ (more : c.position ≡ length s → ⊥) where
      stop-many : 64 ≤ c.taken → (next_stop s c).number ≡ 18
      unfolding next_stop ◌⨾◌ stop_if stop_when
      stop-many h = rw (le-ltb _ _ within, ne_eqb _ _ more, le-leb _ _ h)

      pub call_many : 64 ≤ c.taken → Stopped reasons.Many
      call_many h = stopped 17 _ refl (stop-many h)

      module _ (few : c.taken < 64) where
        stop-binary : (next_stop s c).number ≡ (binary_stop (drop c.position s)).number
        unfolding next_stop ◌⨾◌ stop_if stop_when
        stop-binary = rw (le-ltb _ _ within, ne_eqb _ _ more, lt-leb _ _ few)

        by_number : (a : Answer) → a ≡ binary_at s c.position → (k : ℕ) → (binary_stop (drop c.position s)).number ≡ k → a ≡ answer_by k c.position (binary c.position (drop c.position s))
        unfolding binary_at
        by_number a is k e = is ∙ ap (λ j. answer_by j c.position (binary c.position (drop c.position s))) e

        pub call_refused : (r : Refusal) → answer_of (Err r) ≡ binary_at s c.position → step_of c (Err r) ≡ next s c
        call_refused r is =
            by_nat (binary_stop (drop c.position s)).number
            (λ z. absurd (number_some r.reason (ap (λ x. x.number) (by_number _ is 0 z))))
            (λ k e. ap (λ x. record { answer = x; cursor = c }) (by_number _ is (suc k) e) ∙ sym (next-stop s c k (stop-binary ∙ e)))

        module _ (b : Binary) (is : answer_of (Ok b) ≡ binary_at s c.position) where
          sound : (binary_stop (drop c.position s)).number ≡ 0
          sound = by_nat (binary_stop (drop c.position s)).number (λ z. z) (λ k e. absurd (omega (arith, ap (λ x. x.number) (by_number _ is (suc k) e))))

          answer_is : handed b ≡ handed (binary c.position (drop c.position s))
          answer_is = by_number _ is 0 sound

          sizes : b.size ≡ size_of (drop c.position s)
          sizes = ap (λ x. x.binary.size) answer_is ∙ size_is c.position (drop c.position s) ∙ length-own (drop c.position s) (sized _ sound).inside

          pub call_inside : c.position + b.size ≤ length s
          call_inside = let z = sized _ sound in omega (arith, sizes, z.inside, z.some, length-drop c.position s)

          pub call_good : step_of c (Ok (b, record { position = c.position + b.size; taken = c.taken + 1 })) ≡ next s c
          unfolding past
          call_good =
              let z = sizes in
              (λ i. record { answer = answer_is i; cursor = record { position = c.position + z i; taken = c.taken + 1 } })
              ∙ sym (next-go s c (stop-binary ∙ sound))
