use Rattle.std.proofs.Common.{◌≡◌, ◌∙◌, ◌++◌, ◌∷◌, [], ℕ, List, w32, rules, ap, append_assoc}
use Rattle.std.proofs.lemmas.Int.{to_z-of_z}
use mir.Val.{SFits}
use Rattle.scene_reader.proofs.writing.push_object.Goals as goal

-- a kind was appended, and then the numbers
both_pushed : (before between after row : List ℕ) (kind : ℕ) → between ≡ before ++ kind ∷ [] → after ≡ between ++ row → after ≡ before ++ kind ∷ row
both_pushed before between after row kind e f = f ∙ ap (λ (t : List ℕ). t ++ row) e ∙ append_assoc before (kind ∷ []) row

pub returns-in-Area-clause-value : goal.returns-in-Area-clause-value
returns-in-Area-clause-value c = rw c.in-Area.is (
    let r = c.in-Area.rect in
    let x0 : SFits w32 r.x0 = search rules in
    let y0 : SFits w32 r.y0 = search rules in
    let x1 : SFits w32 r.x1 = search rules in
    let y1 : SFits w32 r.y1 = search rules in
    let w : SFits w32 c.in-Area.w = search rules in
    both_pushed c.args.piece.now c.push.new.self c.push_row.new.piece _ 0 c.push.ensures (simp to_z-of_z at c.push_row.ensures.value))
