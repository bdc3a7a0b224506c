use Rattle.std.proofs.Common.{ℕ, List, ap}
use Rattle.std.proofs.lemmas.Option.{same_Some}
use Rattle.xa_scram.specs.Believed.Keys.{Credentials}
use Rattle.xa_scram.proofs.Exits.{none_some}
use Rattle.xa_scram.proofs.Texts.{count_part, front_part, has_front, has_count, has_salt, keys_are, salt_part, same_verifier, text_again, within}
use Rattle.xa_scram.proofs.verifier.Verifier.of_text.Goals as goal

pub returns-in_err-rest-clause-only : goal.returns-in_err-rest-clause-only
returns-in_err-rest-clause-only c v h e = absurd (has_front c.args.text.now v c.in_err-rest.ensures e)

pub returns-in_err-iterations-clause-only : goal.returns-in_err-iterations-clause-only
returns-in_err-iterations-clause-only c v h e =
    let front = front_part c.args.text.now c.in_ok-rest.rest.now v c.in_ok-rest.ensures e in
    absurd (has_count c.in_ok-rest.rest.now v c.in_err-iterations.ensures front)

pub returns-in_err-salt-clause-only : goal.returns-in_err-salt-clause-only
returns-in_err-salt-clause-only c v h e =
    let front = front_part c.args.text.now c.in_ok-rest.rest.now v c.in_ok-rest.ensures e in
    let count = count_part c.in_ok-rest.rest.now c.in_ok-iterations.iterations.now c.in_ok-iterations.rest.now v c.in_ok-iterations.ensures h
    front in
    absurd (has_salt c.in_ok-iterations.rest.now v c.in_err-salt.ensures count.1)

pub returns-in_err-iterations-2-clause-only : goal.returns-in_err-iterations-2-clause-only
returns-in_err-iterations-2-clause-only c v h e =
    let front = front_part c.args.text.now c.in_ok-rest.rest.now v c.in_ok-rest.ensures e in
    let count = count_part c.in_ok-rest.rest.now c.in_ok-iterations.iterations.now c.in_ok-iterations.rest.now v c.in_ok-iterations.ensures h
    front in
    absurd (none_some v.iterations (c.in_err-iterations-2.ensures.only v.iterations h.count count.0))

pub returns-in_err-salt-2-clause-only : goal.returns-in_err-salt-2-clause-only
returns-in_err-salt-2-clause-only c v h e =
    let front = front_part c.args.text.now c.in_ok-rest.rest.now v c.in_ok-rest.ensures e in
    let count = count_part c.in_ok-rest.rest.now c.in_ok-iterations.iterations.now c.in_ok-iterations.rest.now v c.in_ok-iterations.ensures h
    front in
    let salt = salt_part c.in_ok-iterations.rest.now c.in_ok-salt.salt.now c.in_ok-salt.keys.now v c.in_ok-salt.ensures h count.1 in
    absurd (none_some v.salt (c.in_err-salt-2.ensures.only v.salt h.salt h.salt_bytes salt.0))

pub returns-in_err-stored-clause-only : goal.returns-in_err-stored-clause-only
returns-in_err-stored-clause-only c v h e =
    let front = front_part c.args.text.now c.in_ok-rest.rest.now v c.in_ok-rest.ensures e in
    let count = count_part c.in_ok-rest.rest.now c.in_ok-iterations.iterations.now c.in_ok-iterations.rest.now v c.in_ok-iterations.ensures h
    front in
    let salt = salt_part c.in_ok-iterations.rest.now c.in_ok-salt.salt.now c.in_ok-salt.keys.now v c.in_ok-salt.ensures h count.1 in
    absurd (none_some (v.stored, v.server) (c.in_err-stored.ensures.only v.stored v.server (keys_are c.in_ok-salt.keys.now v h salt.1)))

pub returns-clause-found : goal.returns-clause-found
returns-clause-found c =
    let count = c.in_ok-iterations-2.ensures.found in
    let salt = c.in_ok-salt-2.ensures.found in
    let keys = c.in_ok-stored.ensures.found in
    let v : Credentials = record {
      salt = c.in_ok-salt-2.salt.items;
      iterations = c.in_ok-iterations-2.iterations;
      stored =
          c.in_ok-stored.stored;
      server = c.in_ok-stored.server;
    } in (
      within v count.0 salt.0 salt.1 c.in_ok-salt.keys.now keys,
      text_again c.args.text.now c.in_ok-rest.rest.now c.in_ok-iterations.iterations.now c.in_ok-iterations.rest.now c.in_ok-salt.salt.now
          c.in_ok-salt.keys.now v c.in_ok-rest.ensures c.in_ok-iterations.ensures.1 c.in_ok-salt.ensures.1 count.1 salt.2 keys.bytes_are,
    )

pub returns-clause-only : goal.returns-clause-only
returns-clause-only c v h e =
    let front = front_part c.args.text.now c.in_ok-rest.rest.now v c.in_ok-rest.ensures e in
    let count = count_part c.in_ok-rest.rest.now c.in_ok-iterations.iterations.now c.in_ok-iterations.rest.now v c.in_ok-iterations.ensures h
    front in
    let salt = salt_part c.in_ok-iterations.rest.now c.in_ok-salt.salt.now c.in_ok-salt.keys.now v c.in_ok-salt.ensures h count.1 in
    let keys = same_Some _ _ (c.in_ok-stored.ensures.only v.stored v.server (keys_are c.in_ok-salt.keys.now v h salt.1)) in
    let stored = ap (λ (p : List ℕ × List ℕ). p.0) keys in
    let server = ap (λ (p : List ℕ × List ℕ). p.1) keys in
    same_verifier v c.in_ok-salt-2.salt.items c.in_ok-iterations-2.iterations c.in_ok-stored.stored c.in_ok-stored.server
    (same_Some _ _ (c.in_ok-salt-2.ensures.only v.salt h.salt h.salt_bytes salt.0))
    (same_Some _ _ (c.in_ok-iterations-2.ensures.only v.iterations h.count count.0)) stored server
