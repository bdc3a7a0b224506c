-- The worked rows, by computing.
use Rattle.std.proofs.Common.{refl}
use Rattle.std.specs.Fmt.{digits}
use Rattle.base64.proofs.OnLiterals.{base64_on_literals}
use Rattle.sha2.specs.Sha256.{compress, digest_bytes, first_words, hash_after, rounds, schedule, sha256}
use Rattle.xa_scram.specs.Believed.Keyed.{hmac}
use Rattle.xa_scram.specs.Rows.{KeyedSo, SpelledSo}

pub spelled : SpelledSo
unfolding base64_on_literals digits
spelled = (refl, refl, refl, refl, refl, refl, refl, refl, refl, refl, refl)

pub keyed : KeyedSo
unfolding first_words schedule rounds compress hash_after digest_bytes sha256 hmac
keyed = refl
