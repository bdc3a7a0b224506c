use Rattle.std.proofs.Common.{[], ◌∷◌}
use Rattle.std.specs.Prelude.{decimal}
use Rattle.std.proofs.lemmas.Option.{same_Some}
use Rattle.xa_scram.proofs.Cuts.{after_so}
use Rattle.xa_scram.proofs.Exits.{none_some}
use Rattle.xa_scram.proofs.Challenges.{no_comma, no_salt, salt_cut, tail_again}
use Rattle.xa_scram.proofs.challenge_reader.tail_of.Goals as goal

pub returns-in_err-rest-clause-only : goal.returns-in_err-rest-clause-only
returns-in_err-rest-clause-only c s n h = absurd (no_salt c.args.tail.now s n c.in_err-rest.ensures h)

pub returns-in_err-salt-clause-only : goal.returns-in_err-salt-clause-only
returns-in_err-salt-clause-only c s n h = absurd (no_comma c.args.tail.now c.in_ok-rest.rest.now s n c.in_ok-rest.ensures c.in_err-salt.ensures h)

pub returns-in_err-count-clause-only : goal.returns-in_err-count-clause-only
returns-in_err-count-clause-only c s n h =
    let cut = salt_cut c.args.tail.now c.in_ok-rest.rest.now c.in_ok-salt.salt.now c.in_ok-salt.last.now s n c.in_ok-rest.ensures
    c.in_ok-salt.ensures h in
    absurd (c.in_err-count.ensures (decimal n) cut.1)

pub returns-in_err-salt-2-clause-only : goal.returns-in_err-salt-2-clause-only
returns-in_err-salt-2-clause-only c s n h =
    let cut = salt_cut c.args.tail.now c.in_ok-rest.rest.now c.in_ok-salt.salt.now c.in_ok-salt.last.now s n c.in_ok-rest.ensures
    c.in_ok-salt.ensures h in
    absurd (none_some s (c.in_err-salt-2.ensures.only s h.salt h.salt_bytes cut.0))

pub returns-in_err-iterations-clause-only : goal.returns-in_err-iterations-clause-only
returns-in_err-iterations-clause-only c s n h =
    let cut = salt_cut c.args.tail.now c.in_ok-rest.rest.now c.in_ok-salt.salt.now c.in_ok-salt.last.now s n c.in_ok-rest.ensures
    c.in_ok-salt.ensures h in
    let count = after_so (105 ∷ 61 ∷ []) c.in_ok-salt.last.now c.in_ok-count.count.now (decimal n) c.in_ok-count.ensures cut.1 in
    absurd (none_some n (c.in_err-iterations.ensures.only n h.count count))

pub returns-clause-found : goal.returns-clause-found
returns-clause-found c =
    let salt = c.in_ok-salt-2.ensures.found in
    let count = c.in_ok-iterations.ensures.found in
    record {
      salt = salt.0;
      salt_bytes = salt.1;
      count = count.0;
      bytes_are = tail_again c.args.tail.now c.in_ok-rest.rest.now c.in_ok-salt.salt.now c.in_ok-salt.last.now c.in_ok-count.count.now
          c.in_ok-salt-2.salt.items c.in_ok-iterations.iterations c.in_ok-rest.ensures c.in_ok-salt.ensures.1 c.in_ok-count.ensures salt.2 count.1;
    }

pub returns-clause-only : goal.returns-clause-only
returns-clause-only c s n h =
    let cut = salt_cut c.args.tail.now c.in_ok-rest.rest.now c.in_ok-salt.salt.now c.in_ok-salt.last.now s n c.in_ok-rest.ensures
    c.in_ok-salt.ensures h in
    let count = after_so (105 ∷ 61 ∷ []) c.in_ok-salt.last.now c.in_ok-count.count.now (decimal n) c.in_ok-count.ensures cut.1 in
    (same_Some _ _ (c.in_ok-salt-2.ensures.only s h.salt h.salt_bytes cut.0), same_Some _ _ (c.in_ok-iterations.ensures.only n h.count count))
