use Rattle.std.proofs.Common.{◌≡◌, Option, Some, None, ap, sym, ◌∙◌}
use Rattle.std.specs.Option.{option_copied, option_map}
use Rattle.std.specs.Prelude.{option_and_then}
use Rattle.xa_xid.specs.Triple.{Triple}
use Rattle.xa_script.specs.Words.{one_of, words_behind}
use Rattle.xa_script.specs.Requests.{cursor_of}
use Rattle.xa_script.proofs.Places.{cursor_words}
use Rattle.xa_script.proofs.request.read_cursor.Goals as goal

pub returns-in_err-xid-in-Some : goal.returns-in_err-xid-in-Some
returns-in_err-xid-in-Some c = λ xid_of reads.
    let some : option_copied c.args.words ≡ Some c.in-Some.field-0.now = ap option_copied c.in-Some.is in
    let none : option_and_then xid_of (one_of (words_behind (option_copied c.args.words))) ≡ None = sym (c.read_xid.ensures xid_of reads) ∙ c.in_err-xid-in-Some.was in
    let same : cursor_of xid_of (words_behind (option_copied c.args.words)) ≡ None =
    ap (λ rest. cursor_of xid_of (words_behind rest)) some
    ∙ (cursor_words xid_of c.in-Some.field-0.now ∙ ap (λ (o : Option Triple). option_map (λ xid. Some xid) o) (sym (ap (λ rest. option_and_then xid_of (one_of (words_behind rest))) some) ∙ none)) in
    c.from_residual.ensures ∙ sym same
