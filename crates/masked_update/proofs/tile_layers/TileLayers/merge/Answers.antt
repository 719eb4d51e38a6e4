use Rattle.std.proofs.Common.{rules, ℕ, ◌<◌, ◌^◌, Fits, w32, slice_index_or, subst, List}
use Rattle.cull_base.specs.State.{State}
use Rattle.masked_update.specs.Lanes.{AreSteps, states_of}
use Rattle.masked_update.proofs.Lanes.{eight_states}
use Rattle.masked_update.proofs.LaneMerge.{new_references, new_workings, new_masks, new_layers, new_state}
use Rattle.masked_update.proofs.tile_layers.TileLayers.merge.Goals as goal

fit : (c : goal.After-self-3-1) → (j : ℕ) → j < 8 → slice_index_or c.args.coverage.masks j 0 < 2 ^ 32
fit c j lt = let x : Fits w32 (slice_index_or c.args.coverage.masks j 0) = search rules in x.fits

pub invariant_of-self : goal.invariant_of-self
invariant_of-self c = new_layers c.self.inside.references c.self.inside.workings c.self.inside.masks c.args.coverage.lows c.args.coverage.masks c.self.invariant c.requires.eight_lows c.requires.eight_masks c.requires.within (fit c)

pub returns : goal.returns
returns c =
    let r = c.self.inside.references in
    let w = c.self.inside.workings in
    let m = c.self.inside.masks in
    let l = c.args.coverage.lows in
    let d = c.args.coverage.masks in
    subst (λ (old : List State). AreSteps c.args.coverage old (states_of (new_references r w m l d) (new_workings r w m l d) (new_masks r w m l d))) c.self.view_is
    (record {
      eight_old = eight_states r w m;
      eight = eight_states (new_references r w m l d) (new_workings r w m l d) (new_masks r w m l d);
      steps = new_state r w m l d c.self.invariant c.requires.eight_lows c.requires.eight_masks c.requires.within (fit c);
    })
