use Rattle.std.proofs.Common.{◌≡◌, refl, sym, subst, ◌∙◌, arith}
use Rattle.entry_id.specs.Processors.{processors, names}
use Rattle.profile_form.specs.Table.{row_for, rows_for, rows_from, table}
use Rattle.profile_form.specs.Parts.{Written}
use Rattle.profile_form.proofs.PartLaws.{arch-behind, keeps_other, keeps_none, finds_ours}
use Rattle.profile_form.proofs.General.profile.Goals.{In-Some}
use Rattle.profile_form.proofs.General.profile.Goals as goal

some : (c : In-Some) → c.in-Some.arch ≡ 0 → ⊥
some c = λ e. omega (arith, c.in-Some.ensures.1)

pub returns-in_default : goal.returns-in_default
returns-in_default c =
    let g = c.args.self.now in
    subst (λ f. Written f c.args.out.now c.keep.new.out c.keep.result) (sym (keeps_other g.text.now g.again c.in_default.ensures)) c.keep.ensures

pub past_dash-vendor-requires : goal.past_dash-vendor-requires
past_dash-vendor-requires c = c.in-Some.ensures.2

pub returns-then-stop-at : goal.returns-then-stop-at
returns-then-stop-at c =
    let g = c.args.self.now in
    let at = c.past_dash-at in
    subst (λ f. Written f c.args.out.now c.keep-then-stop-at.new.out c.keep-then-stop-at.result)
    (sym (keeps_none g.text.now g.again c.in-Some.arch c.past_dash-vendor.result c.past_dash-system.result at.result c.seek-stop.result (sym c.in-Some.ensures.0) (some (goal.at.returns-then-stop-at c).In-Some) c.past_dash-vendor.ensures.0 c.past_dash-system.ensures.0 at.ensures.0 at.ensures.1 c.seek-stop.ensures c.if-stop-at.true))
    c.keep-then-stop-at.ensures

pub overflow_sub-card : goal.overflow_sub-card
overflow_sub-card c = let k = c.in-Some.ensures in omega (arith, k.0, k.1, arch-behind c.args.self.now.text.now (λ e. some (goal.at.overflow_sub-card c).In-Some (sym k.0 ∙ e)))

pub ours-requires : goal.ours-requires
unfolding table rows_from rows_for row_for processors names
ours-requires c =
    let g = c.args.self.now in
    let at = c.past_dash-at in
    (refl, finds_ours g.text.now g.again c.in-Some.arch c.past_dash-vendor.result c.past_dash-system.result at.result c.seek-stop.result (sym c.in-Some.ensures.0) (some (goal.at.ours-requires c).In-Some) c.past_dash-vendor.ensures.0 c.past_dash-system.ensures.0 at.ensures.0 at.ensures.1 c.seek-stop.ensures c.if-stop-at.false)

pub returns : goal.returns
returns c = c.ours.ensures
