use Rattle.std.proofs.Common.{[], ◌∷◌, sym, subst, ◌∙◌}
use Rattle.xa_scram.specs.Believed.Limits.{IsName, IsNonce}
use Rattle.xa_scram.proofs.Cuts.{after_so}
use Rattle.xa_scram.proofs.Exits.{no_some}
use Rattle.xa_scram.proofs.Openings.{no_name, name_part, same_opening}
use Rattle.xa_scram.proofs.opening.bare_of.Goals as goal

pub returns-in_err-name-clause-only : goal.returns-in_err-name-clause-only
returns-in_err-name-clause-only c o h = absurd (no_name c.args.binding c.args.bare.now o c.in_err-name.ensures h)

pub returns-in_err-nonce-clause-only : goal.returns-in_err-nonce-clause-only
returns-in_err-nonce-clause-only c o h =
    let p = name_part c.args.binding c.args.bare.now c.in_ok-name.name.now c.in_ok-name.rest.now o c.in_ok-name.ensures h in
    absurd (c.in_err-nonce.ensures o.nonce p.1)

pub returns-in_err-name-2-clause-only : goal.returns-in_err-name-2-clause-only
returns-in_err-name-2-clause-only c o h =
    let p = name_part c.args.binding c.args.bare.now c.in_ok-name.name.now c.in_ok-name.rest.now o c.in_ok-name.ensures h in
    absurd (no_some (c.in_err-name-2.ensures.valid.1 (subst IsName (sym p.0) h.name)))

pub returns-in_err-nonce-2-clause-only : goal.returns-in_err-nonce-2-clause-only
returns-in_err-nonce-2-clause-only c o h =
    let p = name_part c.args.binding c.args.bare.now c.in_ok-name.name.now c.in_ok-name.rest.now o c.in_ok-name.ensures h in
    let q = after_so (114 ∷ 61 ∷ []) c.in_ok-name.rest.now c.in_ok-nonce.nonce.now o.nonce c.in_ok-nonce.ensures p.1 in
    absurd (no_some (c.in_err-nonce-2.ensures.valid.1 (subst IsNonce (sym q) h.nonce)))

pub returns-clause-only : goal.returns-clause-only
returns-clause-only c o h =
    let p = name_part c.args.binding c.args.bare.now c.in_ok-name.name.now c.in_ok-name.rest.now o c.in_ok-name.ensures h in
    let q = after_so (114 ∷ 61 ∷ []) c.in_ok-name.rest.now c.in_ok-nonce.nonce.now o.nonce c.in_ok-nonce.ensures p.1 in
    same_opening o _ _ c.args.binding (c.in_ok-name-2.ensures.name ∙ p.0) (c.in_ok-nonce-2.ensures.nonce ∙ q) (sym h.same)
