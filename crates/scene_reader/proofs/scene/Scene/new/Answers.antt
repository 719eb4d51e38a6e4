use Rattle.std.proofs.Common.{◌≡◌, ◌∙◌, None, Some, Option}
use Rattle.scene_reader.specs.declared.error.SceneError.{SceneError}
use Rattle.scene_reader.proofs.NoFault.{parts_fine}
use Rattle.scene_reader.proofs.scene.Scene.new.Goals as goal

pub returns-in-Some-clause-given : goal.returns-in-Some-clause-given
returns-in-Some-clause-given c = λ scene. let no : ◌≡◌ {A = Option SceneError} (Some c.in-Some.fault) None = c.in-Some.ensures.value ∙ parts_fine c.args.parts scene in absurd cc
