use Rattle.std.proofs.Common.{◌≡◌, ◌+◌, ◌-◌, ℕ, suc, List, refl, inl, inr, ap, sym, ◌∙◌, arith}
use Rattle.std.proofs.lemmas.Bool.{cases_lt}
use Rattle.xa_scram.specs.Believed.Keyed.{folded, hmac, link, xor_bytes}
use Rattle.xa_scram.proofs.keyed.hi.Goals as goal

pub loop-i-init : goal.loop-i-init
unfolding link folded
loop-i-init c =
    let first = c.of_parts-link.ensures c.args.secret.now c.new-keyed.ensures in
    record { none = λ _. refl; now = first; all = first }

pub loop-i-preserved : goal.loop-i-preserved
unfolding link folded
loop-i-preserved c =
    let at : ℕ = c.loop-i._i - 1 in
    let step : c.loop-i._i + 1 - 1 ≡ suc at = omega arith in
    let next : c.of-link.result ≡ link c.args.secret.now c.args.salt.now (suc at) =
    c.of-link.ensures c.args.secret.now c.new-keyed.ensures ∙ ap (hmac c.args.secret.now) c.loop-i.invariant.now in
    let all : c.xored-folded.result ≡ folded c.args.secret.now c.args.salt.now (suc at) =
    c.xored-folded.ensures ∙ ap (λ (f : List ℕ). xor_bytes f c.of-link.result) c.loop-i.invariant.all
    ∙ ap (λ (u : List ℕ). xor_bytes (folded c.args.secret.now c.args.salt.now at) u) next in
    record {
      none = λ few. absurd (omega arith);
      now = next ∙ sym (ap (link c.args.secret.now c.args.salt.now) step);
      all = all ∙ sym (ap (folded c.args.secret.now c.args.salt.now) step);
    }

pub returns : goal.returns
returns c =
    let end : c.loop-i._i - 1 ≡ c.args.count - 1 = elim (cases_lt 1 c.args.count) [
      | inl many ↦ omega arith
      | inr few ↦ let one = c.loop-i.invariant.none few in omega arith
    ] in
    c.loop-i.invariant.all ∙ ap (folded c.args.secret.now c.args.salt.now) end
