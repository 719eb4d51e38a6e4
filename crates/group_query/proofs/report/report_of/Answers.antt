use Rattle.std.proofs.Common.{ℕ, length, subst}
use Rattle.std.proofs.lemmas.List.{length-map}
use Rattle.masked_update.specs.Views.{state_in}
use Rattle.cull_report.specs.Scene.{size_of, verdict_in}
use Rattle.cull_report.specs.Tallies.{Adds}
use Rattle.group_query.specs.Hidden.{told_before}
use Rattle.group_query.proofs.Totals.{told_hidden, told_members}
use Rattle.group_query.proofs.report.report_of.Goals as goal

pub returns : goal.returns
returns g c =
    let a = c.args._grouped.now.asked.now in let s = a.scene.now in
    let tile_of = g.V.TileView.tile_of a.view.now in
    let states = state_in (size_of s) tile_of in
    let gs = c.args._grouped.now.groups.now in
    let t = c.args.answers.tally in
    let told = subst (λ (n : ℕ). Adds (told_before s a.frame states gs 0) t (told_before s a.frame states gs n)) (length-map s.objects (verdict_in s a.frame tile_of)) c.requires.told in
    record {
      verdicts = c.requires.verdicts;
      hidden = told_hidden s a.frame states gs (length s.objects) t c.args._grouped.now.apart told;
      members = told_members s a.frame states gs (length s.objects) t c.args._grouped.now.apart told;
    }
