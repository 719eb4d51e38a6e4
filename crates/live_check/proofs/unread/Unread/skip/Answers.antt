use Rattle.std.proofs.Common.{◌-◌, ◌<◌, List, ℕ, length, drop, arith, ap, ◌∙◌}
use Rattle.std.proofs.lemmas.List.{length-take}
use Rattle.live_check.proofs.ByBytes.{skipped}
use Rattle.live_check.proofs.unread.Unread.skip.Goals as goal

pub returns : goal.returns
returns c =
    let u = c.self.inside in
    let waits : u.next < u.end = omega (arith, length-take (u.end - u.next) (drop u.next u.bytes), ap length c.self.view_is, c.requires) in
    skipped u.bytes u.next u.end waits ∙ ap (λ (h : List ℕ). drop 1 h) c.self.view_is

-- a byte waits, so the next one is no later than the end
pub invariant_of-self : goal.invariant_of-self
invariant_of-self c =
    let u = c.self.inside in
    (omega (arith, length-take (u.end - u.next) (drop u.next u.bytes), ap length c.self.view_is, c.requires), c.self.invariant.1)
