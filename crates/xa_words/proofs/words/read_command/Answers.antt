use Rattle.std.proofs.Common.{◌≡◌, ◌∙◌, Option, Some, None, inl, inr, sym}
use Rattle.std.specs.Prelude.{IsSome}
use Rattle.xa_words.specs.Verbs.{verb_of}
use Rattle.xa_words.specs.declared.verb.Verb.{Verb}
use Rattle.xa_words.proofs.words.read_command.Goals as goal

none_named : (o : Option Verb) → o ≡ None → IsSome o → ⊥
none_named None is some = absurd (cc some)
none_named (Some verb) is some = absurd (cc is)

pub read_other-requires : goal.read_other-requires
read_other-requires c = elim c.requires [
  | inl other ↦ other
  | inr named ↦ absurd (none_named (verb_of c.args.command.now) (sym c.read_verb.ensures ∙ c.in-None.is) named)
]
