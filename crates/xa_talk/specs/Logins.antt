-- How a client logs in by SCRAM-SHA-256 (RFC 5802, 5): what it sends, and what becomes of the login by what it is answered. Of
-- the secret only that is sent which `answer_of` makes of it: the proof in the client's last message.
use Rattle.std.specs.Prelude.{ℕ, ◌≡◌, ◌⊎◌, List, bytes_eq, Option, Result, Ok, Err, MatchResult, if◌then◌else◌}
use Rattle.xa_control.specs.declared.answer.Answer.{Answer}
use Rattle.xa_control.specs.declared.answer.Answer.TheVariants as answer
use Rattle.xa_control.specs.declared.control.Control.TheVariants.{First, Final}
use Rattle.xa_scram.specs.Believed.Exchanges.{Answered, answer_of, opened_by}
use Rattle.xa_scram.specs.Believed.Messages.{Asked, SpellsChallenge, opening_bytes}
use Rattle.xa_talk.specs.declared.fault.TalkFault.{TalkFault}
use Rattle.xa_talk.specs.declared.login_fault.LoginFault.{LoginFault}
use Rattle.xa_talk.specs.declared.login_fault.LoginFault.TheVariants.{Refused, NoChallenge, Stranger, Talk}
use Rattle.xa_talk.specs.Exchanges.{Tells}

-- the challenge that a login's opening was answered, if it was
abbrev pub challenge_of : Result Answer TalkFault → Result (List ℕ) LoginFault
challenge_of (Ok (answer.Challenge text)) = Ok text
challenge_of (Ok (answer.Refused code detail)) = Err (Refused code detail)
challenge_of (Ok other) = Err NoChallenge
challenge_of (Err fault) = Err (Talk fault)

-- What becomes of a login whose last message was answered so: it is done exactly if that is the welcome that the client accepts.
abbrev pub login_end : List ℕ → Result Answer TalkFault → Result (Unit {0}) LoginFault
login_end acceptance (Ok (answer.Welcome text)) = if bytes_eq text acceptance then Ok tt else Err Stranger
login_end acceptance (Ok (answer.Refused code detail)) = Err (Refused code detail)
login_end acceptance (Ok other) = Err Stranger
login_end acceptance (Err fault) = Err (Talk fault)

-- over connections, with what was sent over one, and what can still be read from it
module _ {C : Type 0} (sent left : C → Option (List ℕ)) where
  -- the client's first message, with its name and its nonce, was sent, and the answer awaited
  abbrev pub Opens : List ℕ → List ℕ → C → Result (List ℕ) LoginFault → C → Type 0
  Opens name nonce c challenge c' =
      (told : Result Answer TalkFault) × (challenge ≡ challenge_of told)
      × Tells (First (opening_bytes (opened_by name nonce))) told (sent c) (sent c') (left c) (left c')

  -- the client's last message was sent, and the answer awaited
  abbrev pub Finishes : Answered → C → Result (Unit {0}) LoginFault → C → Type 0
  Finishes response c end c' =
      (told : Result Answer TalkFault) × (end ≡ login_end response.acceptance told)
      × Tells (Final response.message) told (sent c) (sent c') (left c) (left c')

  -- Who has this secret answered a challenge that goes on with the client's nonce; what is none had no answer.
  abbrev pub Responds : List ℕ → List ℕ → List ℕ → List ℕ → C → Result (Unit {0}) LoginFault → C → Type 0
  Responds name nonce secret challenge c end c' =
      ((asked : Asked) × SpellsChallenge nonce challenge asked
      × Finishes (answer_of (opened_by name nonce) secret asked) c end c')
      ⊎ (((asked : Asked) → SpellsChallenge nonce challenge asked → ⊥) × (end ≡ Err NoChallenge) × (c' ≡ c))

  -- It opened the login and answered the challenge. Where there was no challenge it sent no more.
  abbrev pub LogsIn : List ℕ → List ℕ → List ℕ → C → Result (Unit {0}) LoginFault → C → Type 0
  LogsIn name nonce secret c end c' =
      (c'' : C) × (challenge : Result (List ℕ) LoginFault) × Opens name nonce c challenge c''
      × MatchResult challenge (λ text. Responds name nonce secret text c'' end c') (λ fault. (end ≡ Err fault) × (c' ≡ c''))
