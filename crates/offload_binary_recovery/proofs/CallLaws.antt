-- The whole call, by what refuses it. Assumes nothing.
use Prim.Native.Nat.{ℕ, suc, ◌+◌, ◌<◌, ◌≤◌}
use native.Mathlib.Omega.{arith}
use native.Mathlib.Nat.{zero-add}
use mathlib.Core.Path.{◌≡◌, sym, ap, ap₂, ◌∙◌}
use mathlib.Core.List.{List, ◌++◌, map}
use lib.ListN.{length, get_or, drop, length-map, get_or-append}
use Rattle.wire.specs.Limit.{limit}
use Rattle.wire.specs.Bytes.{overwrite}
use Rattle.wire.specs.Rows.{Added}
use Rattle.wire.specs.Stop.{go, stop, over}
use Rattle.wire.proofs.Bools.{by_lt}
use Rattle.wire.proofs.OverwriteLaws.{overwrite_in}
use Rattle.wire.proofs.RowLaws.{up_to_in, added_in, added_over}
use Rattle.offload_binary.specs.Binary.{no_part}
use Rattle.offload_binary.specs.Recovery.{taken, skipped, copied, span_row, recover_stop, recover, copied_to, skipped_to}
use Rattle.offload_binary.specs.RecoveryTheorems.{not_recovered}
use Rattle.offload_binary.specs.declared.Part.{Part}
use Rattle.offload_binary.specs.declared.Recovered.{Recovered}
use Rattle.offload_binary.proofs.RecoverLaws.{stop-long, stop-many, stop-copies, stop-spans, stop-none, answer-stop, answer-go, copies-stop, copies-go, spans-stop, spans-go}
use Rattle.offload_binary_recovery.specs.Code.{Found}

-- what a call gives back: the answer, the output, the list
pub record Back (s out : List ℕ) (spans : List (List ℕ)) (r : Recovered) (o : List ℕ) (l : List (List ℕ)) : Type 0 where
  pub answer : r ≡ recover s (length out) (length spans)
  pub copies : o ≡ copied_to s (length spans) out
  pub list : l ≡ skipped_to s (length out) spans

module _ (s out : List ℕ) (spans : List (List ℕ)) where
  refused_by_lem : (k place : ℕ) → recover_stop s (length out) (length spans) ≡ stop (suc k) place → (r : Recovered) → r ≡ not_recovered (suc k) place → Back s out spans r out spans
  refused_by_lem k place e r q = record {
    answer = q ∙ sym (answer-stop s _ _ k place e);
    copies = sym (copies-stop s out spans k place e);
    list = sym (spans-stop s out spans k place e);
  }

  pub call_long : limit < length s → (r : Recovered) → r ≡ not_recovered 1 0 → Back s out spans r out spans
  call_long h r q = refused_by_lem 0 0 (stop-long s _ _ h) r q

  module _ (w : length s ≤ limit) (n total : ℕ) (list : List Part) (f : Found s n total list) where
    pub call_many : 64 < n → (r : Recovered) → r ≡ not_recovered 18 (get_or list 64 no_part).start → Back s out spans r out spans
    call_many h r q =
        let m : 64 < length (taken s) = omega (arith, f.listed.count_is) in
        let at : get_or list 64 no_part ≡ get_or (taken s) 64 no_part = ap (λ x. get_or x 64 no_part) f.listed.list_is ∙ get_or-append (taken s) _ no_part 64 m in
        refused_by_lem 17 _ (stop-many s _ _ w m ∙ ap (λ c. stop 18 c.start) (sym at)) r q

    module _ (h : n ≤ 64) where
      few : length (taken s) ≤ 64
      few = omega (arith, f.listed.count_is)

      pub call_copies : length out < total → (r : Recovered) → r ≡ not_recovered 12 0 → Back s out spans r out spans
      call_copies l r q = refused_by_lem 11 0 (stop-copies s _ _ w few (omega (arith, f.total_is))) r q

      -- the spans were counted
      module _ (m : ℕ) (none₀ none : List (List ℕ)) (a : Added (length spans) none₀ 0 (map span_row (skipped s)) m none) where
        rows : length (map span_row (skipped s)) ≡ length (skipped s)
        rows = length-map (skipped s) span_row

        pub call_spans : length spans < m → (r : Recovered) → r ≡ not_recovered 12 0 → Back s out spans r out spans
        call_spans l r q = refused_by_lem 11 0 (stop-spans s _ _ w few more) r q
          where
            more : length spans < length (skipped s)
            more =
                by_lt (length spans) (length (skipped s)) (λ g. g)
                (λ g. absurd (omega (arith, rows, a.next_is, up_to_in (length spans) (0 + length (map span_row (skipped s))) (omega (arith, rows)))))

        module _ (l : m ≤ length spans) (enough : total ≤ length out) where
          m_is : m ≡ length (skipped s)
          m_is = added_in _ _ _ _ _ _ a l ∙ zero-add (length (map span_row (skipped s))) ∙ rows

          none_stops : recover_stop s (length out) (length spans) ≡ go
          none_stops = stop-none s _ _ w few (omega (arith, f.total_is)) (omega (arith, m_is))

          pub call_done : (r : Recovered) → r ≡ record { number = 0; place = 0; length = total; spans = m } → (o : List ℕ) → o ≡ overwrite out 0 (copied s)
              → (m₂ : ℕ) (k : List (List ℕ)) → Added (length spans) spans 0 (map span_row (skipped s)) m₂ k → Back s out spans r o k
          unfolding over
          call_done r q o e m₂ k b = record {
            answer = q ∙ ap₂ {C = Recovered} (λ x y. record { number = 0; place = 0; length = x; spans = y }) f.total_is m_is ∙ sym (answer-go s _ _ none_stops);
            copies = e ∙ overwrite_in out 0 (copied s) (omega (arith, f.total_is)) ∙ ap (λ x. copied s ++ drop x out) (zero-add (length (copied s))) ∙ sym (copies-go s out spans none_stops);
            list = added_over spans (map span_row (skipped s)) m₂ k b (omega (arith, rows, m_is)) ∙ sym (spans-go s out spans none_stops);
          }
