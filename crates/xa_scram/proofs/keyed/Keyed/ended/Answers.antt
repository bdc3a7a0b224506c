use Rattle.std.proofs.Common.{ap, subst, sym, ◌∙◌, ◌++◌, ℕ, List}
use Rattle.sha2.specs.Hashers.{Holds256}
use Rattle.sha2.specs.Sha256.{sha256}
use Rattle.sha2.specs.declared.Sha256.{Sha256}
use Rattle.xa_scram.specs.Believed.Keyed.{hmac, padded, short_key}
use Rattle.xa_scram.proofs.keyed.Keyed.ended.Goals as goal

pub returns : goal.returns
unfolding hmac
returns c key message k h =
    let outer = subst (λ (s : Sha256). Holds256 s (padded 0x5c (short_key key))) (sym c.copied-outer.ensures) k.1 in
    let inner = c.finalize-digest.ensures (padded 0x36 (short_key key) ++ message) h in
    let ended = c.finalize.ensures (padded 0x5c (short_key key) ++ c.finalize-digest.result)
    (c.update.ensures (padded 0x5c (short_key key)) outer) in
    ended ∙ ap (λ (d : List ℕ). sha256 (padded 0x5c (short_key key) ++ d)) inner
