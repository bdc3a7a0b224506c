use Rattle.std.proofs.Common.{subst, sym, ◌∙◌}
use Rattle.std.specs.Prelude.{IsUtf8}
use Rattle.xa_users.proofs.Ascii.{name_utf8, verifier_utf8}
use Rattle.xa_users.proofs.entry.document_with.Goals as goal

pub utf8-requires : goal.utf8-requires
utf8-requires c = subst IsUtf8 (sym (c.as_slice.ensures.value ∙ c.put_text.ensures)) (verifier_utf8 c.args.verifier.now c.hold-2.ensures)

pub utf8-requires-2 : goal.utf8-requires-2
utf8-requires-2 c = name_utf8 c.as_slice-2.result.now c.as_slice-2.ensures.name
