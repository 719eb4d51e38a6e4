use Rattle.std.proofs.Common.{◌<◌, None, Option, arith, sym, ap, ◌∙◌, subst}
use Rattle.std.specs.Prelude.{IfSome}
use Rattle.cull_report.specs.Scene.{size_of}
use Rattle.group_query.specs.Hulls.{member_shapes, members_of}
use Rattle.group_query.specs.declared.hulls.Hull.{Hull}
use Rattle.group_query.proofs.FormHulls.{whole_hull}
use Rattle.group_query.proofs.HullMembers.{holds_members, members_are, some_members}
use Rattle.group_query.proofs.group_hull.hull.Goals as goal

pub returns-clause-hull : goal.returns-clause-hull
returns-clause-hull c =
    let s = c.args.scene.now in
    whole_hull s c.args.frame c.args.group c.size-size.result c.no_members.result c.grown_by-hull.result c.told.result c.size-size.ensures c.no_members.ensures c.grown_by-hull.ensures c.told.ensures

pub returns-clause-members : goal.returns-clause-members
returns-clause-members c =
    let s = c.args.scene.now in
    let is = whole_hull s c.args.frame c.args.group c.size-size.result c.no_members.result c.grown_by-hull.result c.told.result c.size-size.ensures c.no_members.ensures c.grown_by-hull.ensures c.told.ensures in
    let same = ap members_of is in
    omega (arith, same, members_are (size_of s) None (member_shapes s c.args.frame c.args.group))

pub returns-clause-none : goal.returns-clause-none
returns-clause-none c none =
    let s = c.args.scene.now in
    let is = whole_hull s c.args.frame c.args.group c.size-size.result c.no_members.result c.grown_by-hull.result c.told.result c.size-size.ensures c.no_members.ensures c.grown_by-hull.ensures c.told.ensures in
    let same = ap members_of (sym is ∙ none) in
    omega (arith, same, members_are (size_of s) None (member_shapes s c.args.frame c.args.group))

pub returns-clause-some : goal.returns-clause-some
returns-clause-some c =
    let s = c.args.scene.now in
    let is = whole_hull s c.args.frame c.args.group c.size-size.result c.no_members.result c.grown_by-hull.result c.told.result c.size-size.ensures c.no_members.ensures c.grown_by-hull.ensures c.told.ensures in
    subst (λ (o : Option Hull). IfSome o (λ h. 0 < h.members)) (sym is) (some_members (size_of s) None (member_shapes s c.args.frame c.args.group) tt)

pub returns-clause-holds : goal.returns-clause-holds
returns-clause-holds c =
    let s = c.args.scene.now in
    let is = whole_hull s c.args.frame c.args.group c.size-size.result c.no_members.result c.grown_by-hull.result c.told.result c.size-size.ensures c.no_members.ensures c.grown_by-hull.ensures c.told.ensures in
    holds_members (size_of s) (member_shapes s c.args.frame c.args.group) c.told.result (sym is)
