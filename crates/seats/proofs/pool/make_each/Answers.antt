use Rattle.std.proofs.Common.{◌≡◌, length, ◌∙◌, subst}
use Rattle.std.proofs.lemmas.List.{length-map}
use Rattle.std.specs.Prelude.{IfOk}
use Rattle.seats.specs.Seats.{seal_of, seals_of}
use Rattle.seats.specs.Things.{AreAllMade, IsThing}
use Rattle.seats.proofs.First.{by_own_names}
use Rattle.seats.proofs.pool.make_each.Goals as goal

pub all_made-requires : goal.all_made-requires
all_made-requires g c =
    by_own_names (IsThing (g.M.Makes.waits c.args.maker.now) (g.M.Makes.made c.args.maker.now)) (seals_of c.in_ok-waiting.waiting.items) c.in_ok-done.done.items c.in_ok-done.ensures

pub returns : goal.returns
returns g c =
    let waiting = c.in_ok-waiting.waiting.items in
    let same : length c.in_ok-done.done.items ≡ c.args.count = c.in_ok-done.ensures.count ∙ length-map waiting seal_of ∙ c.in_ok-waiting.ensures.count in
    subst (λ n. IfOk c.all_made.result (λ v. AreAllMade (g.M.Makes.made c.args.maker.now) n v.items)) same c.all_made.ensures
