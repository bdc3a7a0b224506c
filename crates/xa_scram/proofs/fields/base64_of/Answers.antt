use Rattle.std.proofs.Common.{Some, arith, ap, length, ℕ}
use Rattle.std.proofs.lemmas.List.{length-take}
use Rattle.xa_scram.proofs.Coded.{base64_back, decoded_found, decoded_only, length-base64_short, no_ok}
use Rattle.xa_scram.proofs.fields.base64_of.Goals as goal

pub returns-then-text-gt-MOST_CHARACTERS-clause-only : goal.returns-then-text-gt-MOST_CHARACTERS-clause-only
returns-then-text-gt-MOST_CHARACTERS-clause-only c bytes are few e = absurd (omega (arith, length-base64_short bytes few, ap length e))

pub returns-in_default-clause-only : goal.returns-in_default-clause-only
returns-in_default-clause-only c bytes are few e = absurd (no_ok _ bytes c.in_default.field-0 (base64_back c.args.text.now bytes are e)
    c.in_default.ensures.err)

pub returns-clause-found : goal.returns-clause-found
returns-clause-found c =
    let is = c.in-Ok.ensures.ok in
    decoded_found c.args.text.now c.append.new.out.items c.new-all.result.items _ (λ i. omega (arith, c.type_inv.text i)) is.0 c.hold.ensures
    (omega (arith, is.2, length-take {A = ℕ} c.in-Ok.count c.decode_slice_unchecked.new.output)) c.new-all.ensures c.append.ensures.items

pub returns-clause-only : goal.returns-clause-only
returns-clause-only c bytes are few e =
    ap Some (decoded_only c.args.text.now c.append.new.out.items c.new-all.result.items _ bytes c.in-Ok.ensures.ok.0 c.new-all.ensures
    c.append.ensures.items are e)
