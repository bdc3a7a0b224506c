use Rattle.std.proofs.lemmas.Option.{same_Some}
use Rattle.xa_scram.proofs.Exits.{none_some}
use Rattle.xa_scram.proofs.Texts.{keys_part}
use Rattle.xa_scram.proofs.verifier_text.keys_of.Goals as goal

pub returns-in_err-stored-2-clause-only : goal.returns-in_err-stored-2-clause-only
returns-in_err-stored-2-clause-only c stored server h =
    let p = keys_part c.args.text.now c.in_ok-stored.stored.now c.in_ok-stored.server.now stored server c.in_ok-stored.ensures h in
    absurd (none_some stored (c.in_err-stored-2.ensures.only stored h.stored_size h.stored_bytes p.0))

pub returns-in_err-server-clause-only : goal.returns-in_err-server-clause-only
returns-in_err-server-clause-only c stored server h =
    let p = keys_part c.args.text.now c.in_ok-stored.stored.now c.in_ok-stored.server.now stored server c.in_ok-stored.ensures h in
    absurd (none_some server (c.in_err-server.ensures.only server h.server_size h.server_bytes p.1))

pub returns-clause-only : goal.returns-clause-only
returns-clause-only c stored server h =
    let p = keys_part c.args.text.now c.in_ok-stored.stored.now c.in_ok-stored.server.now stored server c.in_ok-stored.ensures h in
    let a = same_Some _ _ (c.in_ok-stored-2.ensures.only stored h.stored_size h.stored_bytes p.0) in
    let b = same_Some _ _ (c.in_ok-server.ensures.only server h.server_size h.server_bytes p.1) in
    cc
