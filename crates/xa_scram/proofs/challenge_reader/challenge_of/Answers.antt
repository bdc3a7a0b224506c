use Rattle.std.proofs.Common.{refl, sym, subst, ◌∙◌}
use Rattle.xa_scram.specs.Believed.Limits.{IsNonce}
use Rattle.xa_scram.specs.Believed.Messages.{Asked}
use Rattle.xa_scram.proofs.Exits.{no_some}
use Rattle.xa_scram.proofs.Challenges.{challenge_again, front_so, no_front, own_none, own_so, same_asked, tail_is}
use Rattle.xa_scram.proofs.challenge_reader.challenge_of.Goals as goal

pub returns-in_err-rest-clause-only : goal.returns-in_err-rest-clause-only
returns-in_err-rest-clause-only c a h = absurd (no_front c.args.nonce.now c.args.message.now a c.in_err-rest.ensures h)

pub returns-in_err-part-clause-only : goal.returns-in_err-part-clause-only
returns-in_err-part-clause-only c a h = absurd
    (c.in_err-part.ensures _ (front_so c.args.nonce.now c.args.message.now c.in_ok-rest.rest.now a c.in_ok-rest.ensures h))

pub returns-in_err-own-clause-only : goal.returns-in_err-own-clause-only
returns-in_err-own-clause-only c a h = absurd (own_none c.args.nonce.now c.args.message.now c.in_ok-rest.rest.now c.in_ok-part.part.now a
    c.in_ok-rest.ensures c.in_ok-part.ensures c.in_err-own.ensures h)

pub returns-in_err-own-2-clause-only : goal.returns-in_err-own-2-clause-only
returns-in_err-own-2-clause-only c a h =
    let own = own_so c.args.nonce.now c.args.message.now c.in_ok-rest.rest.now c.in_ok-part.part.now c.in_ok-own.own.now c.in_ok-own.tail.now a
    c.in_ok-rest.ensures c.in_ok-part.ensures c.in_ok-own.ensures h in
    absurd (no_some (c.in_err-own-2.ensures.valid.1 (subst IsNonce (sym own.0) h.own)))

pub returns-in_err-salt-clause-only : goal.returns-in_err-salt-clause-only
returns-in_err-salt-clause-only c a h =
    let own = own_so c.args.nonce.now c.args.message.now c.in_ok-rest.rest.now c.in_ok-part.part.now c.in_ok-own.own.now c.in_ok-own.tail.now a
    c.in_ok-rest.ensures c.in_ok-part.ensures c.in_ok-own.ensures h in
    absurd (c.in_err-salt.ensures.only a.salt a.iterations (tail_is c.args.nonce.now c.args.message.now c.in_ok-own.tail.now a h own.1))

pub returns-clause-found : goal.returns-clause-found
returns-clause-found c =
    let a : Asked = record { own = c.in_ok-own-2.own; salt = c.in_ok-salt.salt.items; iterations = c.in_ok-salt.iterations } in
    challenge_again c.args.nonce.now c.args.message.now c.in_ok-rest.rest.now c.in_ok-part.part.now c.in_ok-own.own.now c.in_ok-own.tail.now a
    c.in_ok-rest.ensures c.in_ok-part.ensures c.in_ok-own.ensures.1
    c.in_ok-own-2.ensures.nonce (c.in_ok-own-2.ensures.valid.0 refl) c.in_ok-salt.ensures.found

pub returns-clause-only : goal.returns-clause-only
returns-clause-only c a h =
    let own = own_so c.args.nonce.now c.args.message.now c.in_ok-rest.rest.now c.in_ok-part.part.now c.in_ok-own.own.now c.in_ok-own.tail.now a
    c.in_ok-rest.ensures c.in_ok-part.ensures c.in_ok-own.ensures h in
    let tail = c.in_ok-salt.ensures.only a.salt a.iterations (tail_is c.args.nonce.now c.args.message.now c.in_ok-own.tail.now a h own.1) in
    same_asked a c.in_ok-own-2.own c.in_ok-salt.salt.items c.in_ok-salt.iterations (c.in_ok-own-2.ensures.nonce ∙ own.0) tail.0 tail.1
