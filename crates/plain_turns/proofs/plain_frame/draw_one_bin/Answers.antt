use Rattle.std.proofs.Common.{◌≡◌, ◌∷◌, [], List, length, get_or, arith, ap, ◌∙◌, sym, subst, rules}
use Rattle.std.proofs.lemmas.Grind.{common_steps}
use Rattle.std.proofs.lemmas.List.{length-append}
use Rattle.masked_update.specs.Canvas.{CanvasOf}
use Rattle.bin_tiles.specs.Bins.{IsBinAt}
use Rattle.bin_tiles.specs.Plain.{StandsPlain}
use Rattle.bin_tiles.proofs.Lists.{pushed_at}
use Rattle.plain_turns.proofs.plain_frame.draw_one_bin.Goals as goal

pub returns : goal.returns
returns g c =
    let l = c.args.list.now.list in let cut = c.args.cut.now in
    let items = c.push_reserved.ensures.items in
    let canvas = c.draw_unbinned.new.keeper in
    let none : length c.in_ok-bins.bins.items ≡ 0 = first_of (search rules, grind (arith, common_steps)) in
    let grown = ap length items in
    let one : length c.push_reserved.new.self.items ≡ 1 = omega (arith, grown, length-append c.in_ok-bins.bins.items (canvas ∷ []), none) in
    record {
      count = one ∙ sym c.requires.one;
      each = λ b d lt. subst (λ (xs : List CanvasOf). IsBinAt StandsPlain (tt {0}) l cut (length l.members) b (get_or xs b d)) (sym items)
          (pushed_at (λ k x. IsBinAt StandsPlain (tt {0}) l cut (length l.members) k x) 0 c.in_ok-bins.bins.items canvas none (λ k e below. absurd (omega (arith, below))) c.draw_unbinned.ensures b d (omega (arith, lt, one)));
    }
