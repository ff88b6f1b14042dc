use Rattle.std.proofs.Common.{◌≡◌, ◌+◌, ◌*◌, ◌/◌, ◌^◌, ◌<◌, ◌≤◌, ℕ, List, length, get_or, sym, arith}
use Rattle.wire.specs.Word.{word}
use Rattle.wire.proofs.Bools.{by_lt}
use Rattle.wire.proofs.WordLaws.{word_none, word_shift, word-fits}
use Rattle.wire_read.proofs.number_of_few.Goals as goal

-- what `part` promises
abbrev Part : List ℕ → ℕ → ℕ → ℕ → Type 0
Part s W k x = (k + W ≤ length s → x ≡ 256 ^ k * word W s k) × (length s < k + W → x ≡ 0)

-- one word more, where it is there: m bytes are in the number then
more : (s : List ℕ) (W k m x y : ℕ) → ((i : ℕ) → get_or s i 0 < 256) → k + W ≤ 8 → Part s W k x
    → (k + W ≤ length s → m ≡ k + W) → (length s < k + W → m ≡ k) → y ≡ word k s 0 → y + x ≡ word m s 0
more s W k m x y small h is there none e =
    by_lt (length s) (k + W)
    (λ l. rw (none l) (omega (arith, is.1 l, e)))
    (λ l. rw (there l) (omega (arith, is.0 l, e, (word_shift k W s h small).1)))

module _ (s : List ℕ) (small : (i : ℕ) → get_or s i 0 < 256) (h : length s < 8) (x y : ℕ) (p : Part s 4 0 x) (q : Part s 2 (length s / 4 * 4) y) where
  two : x + y ≡ word (length s / 2 * 2) s 0
  two =
      let one : 0 + x ≡ word (length s / 4 * 4) s 0 = more s 4 0 (length s / 4 * 4) x 0 small (omega arith) p (λ l. omega arith) (λ l. omega arith) (sym (word_none s 0)) in
      more s 2 (length s / 4 * 4) (length s / 2 * 2) y x small (omega arith) q (λ l. omega arith) (λ l. omega arith) (omega (arith, one))

  three : (z : ℕ) → Part s 1 (length s / 2 * 2) z → x + y + z ≡ word (length s) s 0
  three z r = more s 1 (length s / 2 * 2) (length s) z (x + y) small (omega arith) r (λ l. omega arith) (λ l. omega arith) two

pub overflow_add-result : goal.overflow_add-result
overflow_add-result c =
    let s = c.args.bytes.now in
    let small : (i : ℕ) → get_or s i 0 < 256 = λ i. omega (arith, c.type_inv.bytes i) in
    omega (arith, two s small c.requires _ _ c.part.ensures c.part-2.ensures, word-fits (length s / 2 * 2) s 0 (omega arith) small)

pub overflow_add-result-2 : goal.overflow_add-result-2
overflow_add-result-2 c =
    let s = c.args.bytes.now in
    let small : (i : ℕ) → get_or s i 0 < 256 = λ i. omega (arith, c.type_inv.bytes i) in
    omega (arith, three s small c.requires _ _ c.part.ensures c.part-2.ensures _ c.part-3.ensures, word-fits (length s) s 0 (omega arith) small)

pub returns : goal.returns
returns c = three c.args.bytes.now (λ i. omega (arith, c.type_inv.bytes i)) c.requires _ _ c.part.ensures c.part-2.ensures _ c.part-3.ensures
