use Rattle.std.proofs.Common.{rules, arith, Some, ap, sym, ◌∙◌, ◌≡◌, length}
use Rattle.std.specs.Prelude.{IfErr}
use Rattle.toml.specs.Parse.{parse_document}
use Rattle.toml.specs.View.{table_view}
use Rattle.xa_users.specs.declared.fault.UsersFault.TheVariants.{Nobody, TooMany}
use Rattle.xa_users.specs.Faults.{Says, count_of}
use Rattle.xa_users.proofs.Faulty.{count_as, count_users, nobody, not_empty, only_memory, only_so}
use Rattle.xa_users.proofs.Looked.{each_so}
use Rattle.xa_users.proofs.OneList.{one_list}
use Rattle.xa_users.specs.Believed.Users.{SaysUsers}
use Rattle.xa_users.proofs.users.Users.read.Goals as goal

pub returns-in_err-document-clause-only : goal.returns-in_err-document-clause-only
returns-in_err-document-clause-only c =
    let fault : IfErr c.from_residual.result (Says c.args.text.now) = search rules in
    only_so c.from_residual.result c.args.text.now fault

pub returns-then-is_empty-clause-only : goal.returns-then-is_empty-clause-only
returns-then-is_empty-clause-only c =
    let fault : Says c.args.text.now Nobody =
    c.in_ok-document.ensures.ok ∙ ap Some (nobody c.in_ok-document.document.entries (c.is_empty.ensures.0 c.if-is_empty.true)) in
    λ us says. only_memory c.args.text.now Nobody us says fault

pub returns-then-len-gt-MOST_USERS-clause-only : goal.returns-then-len-gt-MOST_USERS-clause-only
returns-then-len-gt-MOST_USERS-clause-only c =
    let fault : Says c.args.text.now TooMany =
    (table_view c.in_ok-document.document, c.in_ok-document.ensures.ok, omega (arith, count_as c.in_ok-document.document.entries)) in
    λ us says. only_memory c.args.text.now TooMany us says fault

pub returns-then-len-gt-MOST_USERS-clause-fault : goal.returns-then-len-gt-MOST_USERS-clause-fault
returns-then-len-gt-MOST_USERS-clause-fault c =
    (table_view c.in_ok-document.document, c.in_ok-document.ensures.ok, omega (arith, count_as c.in_ok-document.document.entries))

pub returns-in_err-by_name-clause-only : goal.returns-in_err-by_name-clause-only
returns-in_err-by_name-clause-only c =
    let fault : IfErr c.from_residual-in_err-by_name.result (Says c.args.text.now) = search rules in
    only_so c.from_residual-in_err-by_name.result c.args.text.now fault

says_all : (c : goal.After-drop-document-2) → SaysUsers c.args.text.now c.in_ok-by_name.by_name.entries
says_all c =
    let same = c.in_ok-by_name.ensures.said in
    let long : length c.in_ok-by_name.by_name.entries ≡ length c.in_ok-document.document.entries =
    sym (count_users c.in_ok-by_name.by_name.entries) ∙ ap count_of (sym same) ∙ count_as c.in_ok-document.document.entries in
    record {
      some = rw long (not_empty c.is_empty.result (length c.in_ok-document.document.entries) c.if-is_empty.false c.is_empty.ensures.1);
      few = omega (arith, long);
      each = c.in_ok-by_name.ensures.each;
      document = c.in_ok-document.ensures.ok ∙ ap Some same;
    }

pub returns-clause-each : goal.returns-clause-each
returns-clause-each c =
    each_so (parse_document c.args.text.now) c.in_ok-by_name.by_name.entries
    (c.in_ok-document.ensures.ok ∙ ap Some c.in_ok-by_name.ensures.said)

pub returns-clause-found : goal.returns-clause-found
returns-clause-found c = says_all c

pub returns-clause-one : goal.returns-clause-one
returns-clause-one c = λ others says. one_list c.args.text.now others c.in_ok-by_name.by_name.entries says (says_all c)
