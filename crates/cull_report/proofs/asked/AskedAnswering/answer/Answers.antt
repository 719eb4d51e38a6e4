use Rattle.std.proofs.Common.{◌≡◌, ℕ, ◌+◌, ◌<◌, ◌++◌, List, [], ◌∷◌, length, map, take, drop, append_assoc, arith, refl, sym, ap, ◌∙◌, pos}
use Rattle.std.proofs.lemmas.List.{append-nil, length-append, length-map}
use Rattle.cull_base.specs.declared.scene_types.Object.{Object}
use Rattle.cull_base.specs.declared.scene_types.Object.TheVariants.{Area}
use Rattle.cull_base.specs.declared.scene_types.Verdict.{Verdict}
use Rattle.cull_report.specs.Scene.{verdict_in}
use Rattle.cull_report.proofs.MadeRuns.{next_verdict}
use Rattle.cull_report.proofs.asked.AskedAnswering.answer.Goals as goal

some_object : Object
some_object = Area (record { x0 = pos 0; y0 = pos 0; x1 = pos 0; y1 = pos 0 }) (pos 0)

pub verdict_at-verdict-requires : goal.verdict_at-verdict-requires
verdict_at-verdict-requires g c =
    let asked = c.args.self.now in
    let n = length-map asked.scene.now.objects (verdict_in asked.scene.now asked.frame (g.V.TileView.tile_of asked.view.now)) in
    omega (arith, n, c.requires.within, c.loop-k-test.true)

pub loop-k-init : goal.loop-k-init
loop-k-init g c = record { asked = sym (append-nil c.args.verdicts.now.items); so_many = omega arith; room = refl }

pub loop-k-preserved : goal.loop-k-preserved
loop-k-preserved g c =
    let asked = c.args.self.now in
    let scene = asked.scene.now in
    let f = verdict_in scene asked.frame (g.V.TileView.tile_of asked.view.now) in
    let old = c.args.verdicts.now.items in
    let first = c.args.first in
    let rest = drop first (map f scene.objects) in
    let k = c.loop-k.k in
    let i = c.loop-k.invariant in
    let n = length-map scene.objects f in
    let lt : first + k < length scene.objects = omega (arith, n, c.requires.within, c.loop-k-test.true) in
    let v = c.verdict_at-verdict.ensures some_object in
    let verdict = c.verdict_at-verdict.result in
    let items = c.push_reserved.ensures.items in
    record {
      asked = items ∙ ap (λ (xs : List Verdict). xs ++ verdict ∷ []) i.asked ∙ append_assoc old (take k rest) (verdict ∷ [])
          ∙ ap (λ (x : Verdict). old ++ (take k rest ++ x ∷ [])) v ∙ sym (ap (λ (xs : List Verdict). old ++ xs) (next_verdict f scene.objects first k some_object lt));
      so_many = (let m = ap length items in omega (arith, m, length-append c.loop-k.verdicts.items (verdict ∷ []), i.so_many));
      room = c.push_reserved.ensures.capacity ∙ i.room;
    }

pub returns-clause-verdicts : goal.returns-clause-verdicts
returns-clause-verdicts g c =
    let asked = c.args.self.now in
    let rest = drop c.args.first (map (verdict_in asked.scene.now asked.frame (g.V.TileView.tile_of asked.view.now)) asked.scene.now.objects) in
    let whole : c.loop-k.k ≡ c.args.count = omega (arith, c.loop-k-test.false, c.loop-k.auto.k-end) in
    c.loop-k.invariant.asked ∙ ap (λ (n : ℕ). c.args.verdicts.now.items ++ take n rest) whole
