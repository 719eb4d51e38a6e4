use Rattle.std.proofs.Common.{◌≡◌, ℕ, ◌+◌, max, Some, arith, refl}
use Rattle.cull_base.specs.declared.rect.Rect.{Rect}
use Rattle.group_query.specs.Hulls.{holding, with_member}
use Rattle.group_query.specs.declared.hulls.Hull.{Hull}
use Rattle.group_query.proofs.FormHulls.{a_hull}
use Rattle.group_query.proofs.hulls.with_member.Goals as goal

is_grown : (h : Hull) (area rect : Rect) (q n : ℕ) → rect ≡ holding h.rect area → n ≡ max h.q q → a_hull rect n (h.members + 1) ≡ with_member (Some h) area q
is_grown h area rect q n e f = rw (e, f) refl

pub returns : goal.returns
returns c = is_grown c.args.hull c.args.area c.holding.result c.args.q _ c.holding.ensures (omega arith)
