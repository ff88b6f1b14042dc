use Rattle.std.proofs.Common.{◌≡◌, true, false, sym, ◌∙◌, arith}
use Rattle.wire.specs.Bytes.{bytes}
use Rattle.profile_form.specs.Parts.{begins, past_arch}
use Rattle.profile_form.proofs.SeekLaws.{starts_same}
use Rattle.profile_form.proofs.parts.past_arch.Goals as goal

pub returns-then-starts_with : goal.returns-then-starts_with
unfolding past_arch
returns-then-starts_with c =
    let k = c.starts_with.ensures in
    let d : begins (bytes "hip-amdgcn-") c.args.x.now ≡ true = sym (starts_same _ _ _ k.value) ∙ c.if-starts_with.true in
    (simp d, omega arith, k.bound c.if-starts_with.true)

pub returns-then-starts_with-2 : goal.returns-then-starts_with-2
unfolding past_arch
returns-then-starts_with-2 c =
    let k = c.starts_with-2.ensures in
    let d : begins (bytes "hip-amdgcn-") c.args.x.now ≡ false = sym (starts_same _ _ _ c.starts_with.ensures.value) ∙ c.if-starts_with.false in
    let e : begins (bytes "hipv4-amdgcn-") c.args.x.now ≡ true = sym (starts_same _ _ _ k.value) ∙ c.if-starts_with-2.true in
    (simp (d, e), omega arith, k.bound c.if-starts_with-2.true)

pub returns-then-starts_with-3 : goal.returns-then-starts_with-3
unfolding past_arch
returns-then-starts_with-3 c =
    let k = c.starts_with-3.ensures in
    let d : begins (bytes "hip-amdgcn-") c.args.x.now ≡ false = sym (starts_same _ _ _ c.starts_with.ensures.value) ∙ c.if-starts_with.false in
    let e : begins (bytes "hipv4-amdgcn-") c.args.x.now ≡ false = sym (starts_same _ _ _ c.starts_with-2.ensures.value) ∙ c.if-starts_with-2.false in
    let f : begins (bytes "openmp-amdgcn-") c.args.x.now ≡ true = sym (starts_same _ _ _ k.value) ∙ c.if-starts_with-3.true in
    (simp (d, e, f), omega arith, k.bound c.if-starts_with-3.true)

pub returns : goal.returns
unfolding past_arch
returns c =
    let d : begins (bytes "hip-amdgcn-") c.args.x.now ≡ false = sym (starts_same _ _ _ c.starts_with.ensures.value) ∙ c.if-starts_with.false in
    let e : begins (bytes "hipv4-amdgcn-") c.args.x.now ≡ false = sym (starts_same _ _ _ c.starts_with-2.ensures.value) ∙ c.if-starts_with-2.false in
    let f : begins (bytes "openmp-amdgcn-") c.args.x.now ≡ false = sym (starts_same _ _ _ c.starts_with-3.ensures.value) ∙ c.if-starts_with-3.false in
    simp (d, e, f)
