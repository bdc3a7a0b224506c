use Rattle.std.proofs.Common.{◌≡◌, ◌++◌, drop}
use Rattle.std.specs.Option.{option_map}
use Rattle.xa_script.specs.Texts.{text_by}
use Rattle.xa_script.specs.declared.text.Stage.TheVariants.{Between}
use Rattle.xa_script.proofs.text.read_text.Given as goal

-- the bytes so far, and those of the characters that are left
abbrev pub invariant-loop-character : goal.invariant-loop-character
invariant-loop-character l =
    text_by Between l.text ≡ option_map (λ bytes. l.bytes.items ++ bytes) (text_by l.stage (drop l.character-index l.text))
