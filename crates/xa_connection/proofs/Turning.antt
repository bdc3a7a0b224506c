-- One answer, by what is at the front.
use Rattle.std.proofs.Common.{◌≡◌, ◌↔◌, Bool, false, ℕ, ◌+◌, ◌-◌, ◌≤◌, List, [], ◌∷◌, ◌++◌, length, take, drop, Option, Some, None, refl, sym, ap, ◌∙◌, inl, inr, arith, subst}
use Rattle.std.specs.Prelude.{IsSome, IsTrue, true}
use Rattle.xa_control.specs.Controls.{SpellsControl}
use Rattle.xa_frame.specs.declared.question.Question.{Question}
use Rattle.xa_frame.specs.declared.question.Question.TheVariants.{Call, Status as AsksStatus}
use Rattle.xa_frame.specs.declared.reply.Reply.{Reply}
use Rattle.xa_frame.specs.Made.{bad_frame}
use Rattle.xa_frame.specs.Questions.{SpellsQuestion}
use Rattle.xa_desk.specs.declared.served.Served.{Served}
use Rattle.xa_desk.specs.declared.served.Served.TheVariants as served
use Rattle.xa_desk.specs.Believed.Frames.{frame}
use Rattle.xa_desk.specs.Believed.Serving.{Answers}
use Rattle.xa_roles.specs.declared.role.Role.{Role}
use Rattle.xa_roles.specs.Believed.Roles.{may_ask}
use Rattle.xa_connection.specs.Believed.Access.{AnswersTo, IsDenied, Permitted, no_access}
use Rattle.xa_connection.specs.declared.answering.Answering.{Answering}
use Rattle.xa_connection.specs.declared.answering.Answering.TheVariants.{Idle, Answered, Memory}
use Rattle.xa_connection.specs.declared.connection.Connection.{Connection}
use Rattle.xa_connection.specs.Fronts.{BeginsTooLong, BeginsWhole}
use Rattle.xa_connection.specs.declared.asked.Asked.{Asked}
use Rattle.xa_connection.specs.declared.asked.Asked.TheVariants as asks
use Rattle.xa_connection.specs.declared.asked.Asked.TheVariants.{One, Refused, Control as Controls}
use Rattle.xa_connection.specs.declared.front.Front.{Front}
use Rattle.xa_connection.specs.declared.front.Front.TheVariants as front
use Rattle.xa_connection.specs.declared.front.Front.TheVariants.{Whole, Cut}
use Rattle.xa_connection.specs.Calls.{AnswersFront, Asks, AsksBy, Holds, IsOwed, IsPut, IsReady, IsRefused, Replies, Turns}
use Rattle.xa_connection.proofs.Fronts.{begins_short}

-- it goes on
pub goes-on : (end : Option Served) (closing : Bool) → (IsTrue closing ↔ IsSome end) → closing ≡ false → end ≡ None
goes-on None closing h is = refl
goes-on (Some x) closing h is = absurd (cc (sym (h.1 refl) ∙ is))

-- no bytes are left
pub none-left : (n : ℕ) (bytes : List ℕ) → n ≡ length bytes → n ≤ 0 → bytes ≡ []
none-left n [] is none = refl
none-left n (b ∷ bytes) is none = absurd (omega (arith, is, none))

-- the content after a length
pub content-is : (count : ℕ) (front input : List ℕ) → front ≡ input → take (4 + count - 4) (drop 4 front) ≡ take count (drop 4 input)
content-is count front input is =
    let same : 4 + count - 4 ≡ count = omega arith in
    ap (λ (n : ℕ). take n (drop 4 front)) same ∙ ap (λ (bs : List ℕ). take count (drop 4 bs)) is

-- what the content of a frame at the front asks for
pub asks-by : (standing : Option Role) (c : Connection) (count : ℕ) (content : List ℕ) (asked : Asked) → IsReady c → BeginsWhole c.input count
    → content ≡ take count (drop 4 c.input) → AsksBy standing count content asked → Asks standing c asked
asks-by standing c count content asks.Idle ready begins is h = absurd h
asks-by standing c count content (One n q) ready begins is (same, spells, may) =
    let said : content ≡ take n (drop 4 c.input) = is ∙ ap (λ (k : ℕ). take k (drop 4 c.input)) (sym same) in
    (ready, subst (λ (k : ℕ). BeginsWhole c.input k) (sym same) begins, subst (λ (bs : List ℕ). SpellsQuestion bs q) said spells, may)
asks-by standing c count content (Refused (Whole n) reply) ready begins is (same, owed) =
    let said : content ≡ take n (drop 4 c.input) = is ∙ ap (λ (k : ℕ). take k (drop 4 c.input)) (sym same) in (
      ready,
      subst (λ (k : ℕ). BeginsWhole c.input k) (sym same) begins,
      subst (λ (bs : List ℕ). IsOwed standing bs reply) said owed,
    )
asks-by standing c count content (Refused front.TooLong reply) ready begins is h = absurd h
asks-by standing c count content (Refused Cut reply) ready begins is h = absurd h
asks-by standing c count content (Controls n k) ready begins is (same, spells, may) =
    let said : content ≡ take n (drop 4 c.input) = is ∙ ap (λ (k : ℕ). take k (drop 4 c.input)) (sym same) in
    (ready, (subst (λ (k : ℕ). BeginsWhole c.input k) (sym same) begins, subst (λ (bs : List ℕ). SpellsControl bs k) said spells), may)

-- what is at the front was answered, and the reply was put
turns-put : {D : Type 0} (standing : Option Role) (called : D → Question → Reply → D → Type 0) (c x c' : Connection) (d e : D) (answering : Answering) (reply : Reply)
    → IsReady c → AnswersFront standing called c d reply x.end x.input e → Holds x reply answering c' → Turns standing called c d answering c' e
turns-put standing called c x c' d e Idle reply ready f h = absurd h
turns-put standing called c x c' d e Answered reply ready f h =
    (ready, reply, subst (λ (y : Connection). AnswersFront standing called c d reply y.end y.input e) (sym h) f, ap (λ (y : Connection). y.output) h)
turns-put standing called c x c' d e Memory reply ready f h = (
  ready,
  reply,
  x.end,
  subst (λ (y : Connection). AnswersFront standing called c d reply x.end y.input e) (sym h) f,
  ap (λ (y : Connection). y.output) h,
  ap (λ (y : Connection). y.end) h,
)

-- a frame is at the front, whose content was answered
pub turns-frame : {D : Type 0} (standing : Option Role) (called : D → Question → Reply → D → Type 0) (c c' : Connection) (d e : D) (answering : Answering) (count : ℕ) (content rest : List ℕ) (reply : Reply)
    → IsReady c → BeginsWhole c.input count → content ≡ take count (drop 4 c.input) → AnswersTo standing called d content reply e → rest ≡ drop (4 + count) c.input
    → Holds (record c { input = rest }) reply answering c' → Turns standing called c d answering c' e
turns-frame standing called c c' d e answering count content rest reply ready b is said behind h =
    let front : List ℕ = take count (drop 4 c.input) in
    turns-put standing called c (record c { input = rest }) c' d e answering reply ready
    (inl (
      front,
      begins_short c.input count b,
      b.parts ∙ ap (λ (bs : List ℕ). frame front ++ bs) (sym behind),
      subst (λ (bs : List ℕ). AnswersTo standing called d bs reply e) is said,
      ready.0,
    ))
    h

-- a length that is too great is at the front
pub turns-length : {D : Type 0} (standing : Option Role) (called : D → Question → Reply → D → Type 0) (c c' : Connection) (d : D) (answering : Answering) (reply : Reply)
    → IsReady c → BeginsTooLong c.input → reply ≡ bad_frame → Holds (record c { end = Some served.TooLong }) reply answering c' → Turns standing called c d answering c' d
turns-length standing called c c' d answering reply ready b is h =
    turns-put standing called c (record c { end = Some served.TooLong }) c' d d answering reply ready (inr (b, refl, refl, is, refl)) h

-- a content that reaches no door is answered so
pub refused-answers : {D : Type 0} (called : D → Question → Reply → D → Type 0) (d : D) (content : List ℕ) (reply : Reply)
    → IsRefused content reply → Answers called d content reply d
refused-answers called d content reply (inl (f, ne, is, r)) = inr (inl (f, ne, is, refl, r))
refused-answers called d content reply (inr (none, r)) = inr (inr (inl (none, refl, r)))

pub owed-answers : {D : Type 0} (standing : Option Role) (called : D → Question → Reply → D → Type 0) (d : D) (content : List ℕ) (reply : Reply)
    → IsOwed standing content reply → AnswersTo standing called d content reply d
owed-answers standing called d content reply (inl (refused, other)) = inl (refused-answers (Permitted standing called) d content reply refused)
owed-answers standing called d content reply (inr (denied, is)) = inr (denied, is, refl)

-- the question at the front was answered by the door, and replied to
pub turns-called : {D : Type 0} (standing : Option Role) (called : D → Question → Reply → D → Type 0) (c c' : Connection) (d e : D) (answering : Answering) (count : ℕ) (q : Question) (reply : Reply)
    → Asks standing c (One count q) → IsPut called d q reply e → Replies c (Whole count) reply answering c' → Turns standing called c d answering c' e
turns-called standing called c c' d e answering count (Call q) reply (ready, begins, spells, may) did h =
    turns-frame standing called c c' d e answering count (take count (drop 4 c.input)) (drop (4 + count) c.input) reply ready begins refl
    (inl (inl (q, spells, (may, did)))) refl h
turns-called standing called c c' d e answering count AsksStatus reply (ready, begins, spells, may) (s, same, is, did) h =
    turns-frame standing called c c' d e answering count (take count (drop 4 c.input)) (drop (4 + count) c.input) reply ready begins refl
    (inl (inr (inr (inr (s, spells, same, is, (may, did)))))) refl h

-- what is at the front reached no door, and was replied to
pub turns-refused : {D : Type 0} (standing : Option Role) (called : D → Question → Reply → D → Type 0) (c c' : Connection) (d : D) (answering : Answering) (front : Front) (reply : Reply)
    → Asks standing c (Refused front reply) → Replies c front reply answering c' → Turns standing called c d answering c' d
turns-refused standing called c c' d answering (Whole count) reply (ready, begins, owed) h =
    let content : List ℕ = take count (drop 4 c.input) in
    turns-frame standing called c c' d d answering count content (drop (4 + count) c.input) reply ready begins refl
    (owed-answers standing called d content reply owed) refl h
turns-refused standing called c c' d answering front.TooLong reply (ready, begins, bad) h =
    turns-length standing called c c' d answering reply ready begins bad h
turns-refused standing called c c' d answering Cut reply none h = absurd none
