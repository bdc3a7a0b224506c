-- How long messages are.
use Rattle.std.proofs.Common.{◌≡◌, ℕ, ◌+◌, ◌≤◌, List, ◌++◌, codes, length, length-append, refl, ap, arith}
use Rattle.std.specs.Prelude.{decimal}
use Rattle.xa_scram.specs.declared.opening.Binding.{Binding}
use Rattle.xa_scram.specs.declared.opening.Binding.TheVariants.{Unsupported, Unoffered}
use Rattle.xa_scram.specs.declared.opening.Opening.{Opening}
use Rattle.xa_scram.specs.Believed.Keys.{Credentials}
use Rattle.xa_scram.specs.Believed.Limits.{IsNonce, IsWithinLimits}
use Rattle.xa_scram.specs.Believed.Messages.{Asked, SpellsChallenge, SpellsOpening, acceptance_bytes, base64, header_bytes, text_of}
use Rattle.xa_scram.specs.Believed.Exchanges.{Begun, Proves}
use Rattle.xa_scram.specs.Laws.{AreShort}
use Rattle.xa_scram.proofs.Coded.{length-base64, length-base64_short}
use Rattle.xa_scram.proofs.Decimals.{length-decimal_count}

length-header : (b : Binding) → length (header_bytes b) ≡ 3
length-header Unsupported = refl
length-header Unoffered = refl

length-4 : (a b c d : List ℕ) → length (a ++ b ++ c ++ d) ≡ length a + length b + length c + length d
length-4 a b c d = omega (arith, length-append (a ++ b ++ c) d, length-append (a ++ b) c, length-append a b)

length-7 : (a b c d e f g : List ℕ) → length (a ++ b ++ c ++ d ++ e ++ f ++ g)
    ≡ length a + length b + length c + length d + length e + length f + length g
length-7 a b c d e f g =
    omega (
      arith,
      length-append (a ++ b ++ c ++ d ++ e ++ f) g,
      length-append (a ++ b ++ c ++ d ++ e) f,
      length-append (a ++ b ++ c ++ d)
          e,
      length-4 a b c d,
    )

short_opening : (bytes : List ℕ) (o : Opening) → SpellsOpening bytes o → length bytes ≤ 256
short_opening bytes o h =
    let bare = length-4 (codes "n=") o.name (codes ",r=") o.nonce in
    omega (
      arith,
      ap length h.bytes_are,
      length-append (header_bytes o.binding) (codes "n=" ++ o.name ++ codes ",r=" ++ o.nonce),
      length-header
          o.binding,
      bare,
      h.name.most,
      h.nonce.most,
    )

short_challenge : (nonce bytes : List ℕ) (a : Asked) → IsNonce nonce → SpellsChallenge nonce bytes a → length bytes ≤ 256
short_challenge nonce bytes a is h =
    let all = length-7 (codes "r=") nonce a.own (codes ",s=") (base64 a.salt) (codes ",i=") (decimal a.iterations) in
    let salt : length (base64 a.salt) ≤ 44 = length-base64_short a.salt (omega (arith, h.salt.1)) in
    let count : length (decimal a.iterations) ≤ 7 = length-decimal_count a.iterations h.count.1 in
    omega (arith, ap length h.bytes_are, all, salt, count, is.most, h.own.most)

short_answer : (e : Begun) (message proof : List ℕ) → IsNonce e.opening.nonce → length e.own ≡ 18 → Proves e message proof → length message ≤ 256
short_answer e message proof is size h =
    let header = length-base64 (header_bytes e.opening.binding) in
    let own = length-base64 e.own in
    let last = length-base64 proof in
    let all = length-7 (codes "c=") (base64 (header_bytes e.opening.binding)) (codes ",r=") e.opening.nonce (base64 e.own) (codes ",p=")
    (base64 proof) in
    omega (arith, ap length h.bytes_are, all, header, own, last, length-header e.opening.binding, size, h.size, is.most)

short_acceptance : (signature : List ℕ) → length signature ≡ 32 → length (acceptance_bytes signature) ≤ 256
short_acceptance signature size = omega (arith, length-append (codes "v=") (base64 signature), length-base64 signature)

short_text : (c : Credentials) → IsWithinLimits c → length (text_of c) ≤ 256
short_text c h =
    let count : length (decimal c.iterations) ≤ 7 = length-decimal_count c.iterations h.count.1 in
    let salt : length (base64 c.salt) ≤ 44 = length-base64_short c.salt (omega (arith, h.salt.1)) in
    let stored : length (base64 c.stored) ≤ 44 = length-base64_short c.stored (omega (arith, h.stored)) in
    let server : length (base64 c.server) ≤ 44 = length-base64_short c.server (omega (arith, h.server)) in
    let front = length-7 (codes "SCRAM-SHA-256$") (decimal c.iterations) (codes ":") (base64 c.salt) (codes "$") (base64 c.stored) (codes ":") in
    omega (
      arith,
      front,
      length-append (codes "SCRAM-SHA-256$" ++ decimal c.iterations ++ codes ":" ++ base64 c.salt ++ codes "$" ++ base64
          c.stored ++ codes ":") (base64 c.server),
      count,
      salt,
      stored,
      server,
    )

pub short : AreShort
short = record {
  opening = short_opening;
  challenge = short_challenge;
  answer = short_answer;
  acceptance = short_acceptance;
  text = short_text;
}
