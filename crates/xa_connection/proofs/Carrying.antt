-- What a connection carries stays with each call.
use Rattle.std.proofs.Common.{◌≡◌, ℕ, ◌+◌, ◌≤◌, List, [], ◌∷◌, ◌++◌, length, take, drop, min, Option, Some, None, refl, sym, ap, ◌∙◌, inl, inr, append_assoc, append-nil, arith, subst}
use Rattle.std.specs.List.{flat_map}
use Rattle.std.proofs.lemmas.Grind.{flat_map-append}
use Rattle.std.proofs.lemmas.List.{length-append, length-drop, length-take, take-append-drop}
use Rattle.std.proofs.Math.Seq.{drop-nil, take-nil}
use Rattle.std.proofs.lemmas.List.Elements.{All-append, All-nil, All-cons}
use Rattle.xa_control.specs.declared.answer.Answer.{Answer}
use Rattle.xa_control.specs.declared.control.Control.{Control}
use Rattle.xa_frame.specs.declared.question.Question.{Question}
use Rattle.xa_frame.specs.declared.reply.Reply.{Reply}
use Rattle.xa_frame.specs.Made.{bad_frame}
use Rattle.xa_desk.specs.declared.served.Served.{Served}
use Rattle.xa_desk.specs.declared.served.Served.TheVariants.{Ended, ReadFault, WriteFault, TooLong, Memory}
use Rattle.xa_desk.specs.Believed.Frames.{frame, reply_frame}
use Rattle.xa_desk.specs.Believed.Serving.{IsShort, frames_of}
use Rattle.xa_roles.specs.declared.role.Role.{Role}
use Rattle.xa_connection.specs.Believed.Access.{AnswersAllTo}
use Rattle.xa_desk.proofs.Talking.{frames-behind}
use Rattle.xa_connection.specs.declared.answering.Answering.{Answering}
use Rattle.xa_connection.specs.declared.answering.Answering.TheVariants as answering
use Rattle.xa_connection.specs.declared.connection.Connection.{Connection}
use Rattle.xa_connection.specs.declared.connection.TheConstants.{MOST_INPUT}
use Rattle.xa_connection.specs.Fronts.{BeginsTooLong}
use Rattle.xa_connection.specs.Calls.{AnswersFront, AnswersServer, Feeds, HoldsAnswer, IsReady, Turns, room_in}
use Rattle.xa_connection.specs.Carries.{Carries, CarriesControl, CarriesLaw, Delivers, Owed, Sends}

-- nothing is under way
pub idle-delivers : (replies : List Reply) (sent : List ℕ) → sent ≡ frames_of replies → Delivers replies sent []
idle-delivers replies sent is = record { in_order = sym is ∙ sym (append-nil sent); last = inl refl }

-- a reply is to be sent after others that were
more-delivers : (replies : List Reply) (reply : Reply) (sent : List ℕ) → sent ≡ frames_of replies → Delivers (replies ++ reply ∷ []) sent (reply_frame reply)
more-delivers replies reply sent is = record {
  in_order = sym (ap (λ (bs : List ℕ). bs ++ reply_frame reply) is ∙ frames-behind replies (reply ∷ []) (reply_frame reply) (sym (append-nil (reply_frame reply))));
  last = inr (replies, reply, [], refl, is ∙ sym (append-nil (frames_of replies)), refl);
}

-- this many bytes more were sent
sent-delivers : (replies : List Reply) (sent unsent : List ℕ) (count : ℕ) → Delivers replies sent unsent → Delivers replies (sent ++ take count unsent) (drop count unsent)
sent-delivers replies sent unsent count h = record {
  in_order = h.in_order ∙ ap (λ (bs : List ℕ). sent ++ bs) (sym (take-append-drop count unsent)) ∙ sym (append_assoc sent (take count unsent) (drop count unsent));
  last = elim h.last [
    | inl none ↦ inl (ap (λ (bs : List ℕ). drop count bs) none ∙ drop-nil count)
    | inr k ↦ inr (
      k.0,
      k.1,
      k.2 ++ take count unsent,
      k.3,
      ap (λ (bs : List ℕ). bs ++ take count unsent) k.4 ∙ append_assoc (frames_of k.0) k.2 (take count unsent),
      k.5 ∙ ap (λ (bs : List ℕ). k.2 ++ bs) (sym (take-append-drop count unsent)) ∙ sym (append_assoc k.2 (take count unsent) (drop count unsent)),
    )
  ];
}

-- all that is owed was sent
pub all-sent : (end : Option Served) (replies : List Reply) (input sent unsent : List ℕ) → end ≡ None → unsent ≡ [] → Sends end replies input sent unsent → sent ≡ frames_of replies
all-sent None replies input sent unsent is none h = sym (append-nil sent) ∙ sym (h.in_order ∙ ap (λ (bs : List ℕ). sent ++ bs) none)
all-sent (Some end) replies input sent unsent is none h = absurd (cc is)

sends-by : (end end' : Option Served) (replies : List Reply) (input sent unsent unsent' : List ℕ) → end ≡ end' → unsent ≡ unsent' → Sends end' replies input sent unsent' → Sends end replies input sent unsent
sends-by end end' replies input sent unsent unsent' p q h =
    subst (λ (x : Option Served). Sends x replies input sent unsent) (sym p) (subst (λ (y : List ℕ). Sends end' replies input sent y) (sym q) h)

-- this many bytes more were sent
sent-sends : (end : Option Served) (replies : List Reply) (input sent unsent : List ℕ) (count : ℕ) → Sends end replies input sent unsent → Sends end replies input (sent ++ take count unsent) (drop count unsent)
sent-sends None replies input sent unsent count h = sent-delivers replies sent unsent count h
sent-sends (Some TooLong) replies input sent unsent count h = (h.0, sent-delivers (replies ++ bad_frame ∷ []) sent unsent count h.1)
sent-sends (Some Memory) replies input sent unsent count h = (
  h.0,
  h.1,
  h.2,
  h.3,
  h.4,
  h.5,
  ap (λ (bs : List ℕ). sent ++ take count bs) h.7 ∙ ap (λ (bs : List ℕ). sent ++ bs) (take-nil count) ∙ append-nil sent ∙ h.6,
  ap (λ (bs : List ℕ). drop count bs) h.7 ∙ drop-nil count,
)
sent-sends (Some Ended) replies input sent unsent count h = absurd h
sent-sends (Some ReadFault) replies input sent unsent count h = absurd h
sent-sends (Some WriteFault) replies input sent unsent count h = absurd h

-- more came in
fed-sends : (end : Option Served) (replies : List Reply) (input more sent unsent : List ℕ) → Sends end replies input sent unsent → Sends end replies (input ++ more) sent unsent
fed-sends None replies input more sent unsent h = h
fed-sends (Some TooLong) replies input more sent unsent h =
    ((h.0.0, h.0.1 ++ more, h.0.2, ap (λ (bs : List ℕ). bs ++ more) h.0.3 ∙ append_assoc h.0.0 h.0.1 more), h.1)
fed-sends (Some Memory) replies input more sent unsent h =
    (h.0, h.1, h.2, h.3 ++ more, ap (λ (bs : List ℕ). bs ++ more) h.4 ∙ append_assoc h.2 h.3 more, h.5, h.6, h.7)
fed-sends (Some Ended) replies input more sent unsent h = absurd h
fed-sends (Some ReadFault) replies input more sent unsent h = absurd h
fed-sends (Some WriteFault) replies input more sent unsent h = absurd h

-- what there is room for is within the bound
within : (end : Option Served) (output input bytes : List ℕ) (count : ℕ) → length input ≤ MOST_INPUT → count ≡ min (room_in end output input) (length bytes) → length (input ++ take count bytes) ≤ MOST_INPUT
within None [] input bytes count few is = omega (arith, length-append input (take count bytes), length-take count bytes, few, is)
within None (b ∷ output) input bytes count few is = omega (arith, length-append input (take count bytes), length-take count bytes, few, is)
within (Some end) output input bytes count few is = omega (arith, length-append input (take count bytes), length-take count bytes, few, is)

carries-fed : (contents : List (List ℕ)) (replies : List Reply) (fed sent bytes : List ℕ) (count : ℕ) (c c' : Connection) → Carries contents replies fed sent c → Feeds c bytes count c'
    → Carries contents replies (fed ++ take count bytes) sent c'
carries-fed contents replies fed sent bytes count c c' h f =
    let more : List ℕ = take count bytes in
    subst (λ (x : Connection). Carries contents replies (fed ++ more) sent x) (sym f.1) (record {
      short = h.short;
      fed_is = ap (λ (bs : List ℕ). bs ++ more) h.fed_is ∙ append_assoc (flat_map frame contents) c.input more;
      sends = fed-sends c.end replies c.input more sent c.output h.sends;
      bounded = within c.end c.output c.input bytes count h.bounded f.0;
    })

carries-sent : (contents : List (List ℕ)) (replies : List Reply) (fed sent : List ℕ) (count : ℕ) (c : Connection) → Carries contents replies fed sent c
    → Carries contents replies fed (sent ++ take count c.output) (record c { output = drop count c.output })
carries-sent contents replies fed sent count c h = record {
  short = h.short;
  fed_is = h.fed_is;
  sends = sent-sends c.end replies c.input sent c.output count h.sends;
  bounded = h.bounded;
}

-- a content was taken and answered
frame-answered : (contents : List (List ℕ)) (replies : List Reply) (fed sent : List ℕ) (c c' : Connection) (content : List ℕ) (reply : Reply) → Carries contents replies fed sent c
    → IsShort content → c.input ≡ frame content ++ c'.input → Sends c'.end (replies ++ reply ∷ []) c'.input sent c'.output → Carries (contents ++ content ∷ []) (replies ++ reply ∷ []) fed sent c'
frame-answered contents replies fed sent c c' content reply h short is sends =
    let before : List ℕ = flat_map frame contents in
    let frames : flat_map frame (contents ++ content ∷ []) ≡ before ++ frame content =
    flat_map-append frame contents (content ∷ []) ∙ ap (λ (bs : List ℕ). before ++ bs) (append-nil (frame content)) in
    record {
      short = All-append IsShort contents (content ∷ []) h.short (All-cons IsShort content [] short (All-nil IsShort));
      fed_is = h.fed_is ∙ ap (λ (bs : List ℕ). before ++ bs) is ∙ sym (append_assoc before (frame content) c'.input) ∙ ap (λ (bs : List ℕ). bs ++ c'.input) (sym frames);
      sends = sends;
      bounded = omega (arith, h.bounded, ap (λ (bs : List ℕ). length bs) is, length-append (frame content) c'.input);
    }

-- no content was
none-answered : (contents : List (List ℕ)) (replies : List Reply) (fed sent : List ℕ) (c c' : Connection) → Carries contents replies fed sent c
    → c'.input ≡ c.input → Sends c'.end replies c'.input sent c'.output → Carries (contents ++ []) (replies ++ []) fed sent c'
none-answered contents replies fed sent c c' h same sends =
    subst (λ (cs : List (List ℕ)). Carries cs (replies ++ []) fed sent c') (sym (append-nil contents))
    (subst (λ (rs : List Reply). Carries contents rs fed sent c') (sym (append-nil replies)) (record {
      short = h.short;
      fed_is = h.fed_is ∙ ap (λ (bs : List ℕ). flat_map frame contents ++ bs) (sym same);
      sends = sends;
      bounded = omega (arith, h.bounded, ap (λ (bs : List ℕ). length bs) same);
    }))

-- what was answered is one content, or a length that is too great, which is none
front-answered : {D : Type 0} (standing : Option Role) (called : D → Question → Reply → D → Type 0) (contents : List (List ℕ)) (replies : List Reply) (fed sent : List ℕ) (c c' : Connection) (d e : D) (reply : Reply) (end : Option Served)
    → Carries contents replies fed sent c → AnswersFront standing called c d reply end c'.input e
    → (end ≡ None → Sends c'.end (replies ++ reply ∷ []) c'.input sent c'.output)
    → (BeginsTooLong c'.input → reply ≡ bad_frame → end ≡ Some TooLong → Sends c'.end replies c'.input sent c'.output)
    → (asked : List (List ℕ)) × (answered : List Reply) × AnswersAllTo standing called d asked answered e × Carries (contents ++ asked) (replies ++ answered) fed sent c'
front-answered standing called contents replies fed sent c c' d e reply end h (inl k) one none =
    (k.0 ∷ [], reply ∷ [], (e, k.3, refl), frame-answered contents replies fed sent c c' k.0 reply h k.1 k.2 (one k.4))
front-answered standing called contents replies fed sent c c' d e reply end h (inr k) one none =
    ([], [], sym k.2, none-answered contents replies fed sent c c' h k.1 (none (subst BeginsTooLong (sym k.1) k.0) k.3 k.4))

carries-answered : {D : Type 0} (standing : Option Role) (called : D → Question → Reply → D → Type 0) (contents : List (List ℕ)) (replies : List Reply) (fed sent : List ℕ) (answering : Answering) (c c' : Connection) (d e : D)
    → Carries contents replies fed sent c → Turns standing called c d answering c' e
    → (asked : List (List ℕ)) × (answered : List Reply) × AnswersAllTo standing called d asked answered e × Carries (contents ++ asked) (replies ++ answered) fed sent c'
carries-answered standing called contents replies fed sent answering.Idle c c' d e h t = (
  [],
  [],
  sym t.2,
  subst (λ (x : Connection). Carries (contents ++ []) (replies ++ []) fed sent x) (sym t.1) (none-answered contents replies fed sent c c h refl h.sends),
)
carries-answered standing called contents replies fed sent answering.Answered c c' d e h t =
    let told : sent ≡ frames_of replies = all-sent c.end replies c.input sent c.output t.0.0 t.0.1 h.sends in
    front-answered standing called contents replies fed sent c c' d e t.1 c'.end h t.2
    (λ goes. sends-by c'.end None (replies ++ t.1 ∷ []) c'.input sent c'.output (reply_frame t.1) goes t.3 (more-delivers replies t.1 sent told))
    (λ b is shut. sends-by c'.end (Some TooLong) replies c'.input sent c'.output (reply_frame bad_frame) shut (t.3 ∙ ap reply_frame is) (b, more-delivers replies bad_frame sent told))
carries-answered standing called contents replies fed sent answering.Memory c c' d e h t =
    let told : sent ≡ frames_of replies = all-sent c.end replies c.input sent c.output t.0.0 t.0.1 h.sends in
    front-answered standing called contents replies fed sent c c' d e t.1 t.2 h t.3
    (λ goes. sends-by c'.end (Some Memory) (replies ++ t.1 ∷ []) c'.input sent c'.output [] t.5 t.4 (replies, t.1, [], c'.input, refl, inl (refl, refl), told, refl))
    (λ b is shut. sends-by c'.end (Some Memory) replies c'.input sent c'.output [] t.5 t.4 (replies, t.1, b.0, b.1, b.3, inr (b.2, ap (λ (r : Reply). replies ++ r ∷ []) is), told, refl))

-- what the server itself is asked stands after the contents that were answered
control-fed : (contents : List (List ℕ)) (fed input content rest : List ℕ) → fed ≡ flat_map frame contents ++ input → input ≡ frame content ++ rest
    → fed ≡ flat_map frame (contents ++ content ∷ []) ++ rest
control-fed contents fed input content rest is parts =
    let before : List ℕ = flat_map frame contents in
    let frames : flat_map frame (contents ++ content ∷ []) ≡ before ++ frame content =
    flat_map-append frame contents (content ∷ []) ∙ ap (λ (bs : List ℕ). before ++ bs) (append-nil (frame content)) in
    is ∙ ap (λ (bs : List ℕ). before ++ bs) parts ∙ sym (append_assoc before (frame content) rest) ∙ ap (λ (bs : List ℕ). bs ++ rest) (sym frames)

-- of a connection that goes on
held-input : (c c' : Connection) (answer : Answer) (answering : Answering) → HoldsAnswer c answer answering c' → c'.input ≡ c.input
held-input c c' answer answering.Idle h = absurd h
held-input c c' answer answering.Answered h = ap (λ (x : Connection). x.input) h
held-input c c' answer answering.Memory h = ap (λ (x : Connection). x.input) h

held-owed : (c c' : Connection) (answer : Answer) (answering : Answering) → c.end ≡ None → HoldsAnswer c answer answering c' → Owed answering answer c'
held-owed c c' answer answering.Idle goes h = absurd h
held-owed c c' answer answering.Answered goes h = (ap (λ (x : Connection). x.output) h, ap (λ (x : Connection). x.end) h ∙ goes)
held-owed c c' answer answering.Memory goes h = (ap (λ (x : Connection). x.output) h, ap (λ (x : Connection). x.end) h)

carries-controlled : (contents : List (List ℕ)) (replies : List Reply) (fed sent : List ℕ) (control : Control) (answer : Answer) (answering : Answering) (c c' : Connection)
    → Carries contents replies fed sent c → AnswersServer c control answer answering c' → CarriesControl contents replies fed sent control answer answering c'
carries-controlled contents replies fed sent control answer answering c c' h (ready, count, asks, holds) =
    let taken : Connection = record c { input = drop (4 + count) c.input } in
    let content : List ℕ = take count (drop 4 c.input) in
    let rest : c'.input ≡ drop (4 + count) c.input = held-input taken c' answer answering holds in
    record {
      short = h.short;
      content = content;
      asked = asks.1;
      fed_is = control-fed contents fed c.input content c'.input h.fed_is (asks.0.parts ∙ ap (λ (bs : List ℕ). frame content ++ bs) (sym rest));
      sent_is = all-sent c.end replies c.input sent c.output ready.0 ready.1 h.sends;
      owed = held-owed taken c' answer answering ready.0 holds;
      bounded = omega (arith, h.bounded, ap (λ (bs : List ℕ). length bs) rest, length-drop (4 + count) c.input);
    }

carries-anew : (c : Connection) → IsReady c → length c.input ≤ MOST_INPUT → Carries [] [] c.input [] c
carries-anew c ready few = record {
  short = All-nil IsShort;
  fed_is = refl;
  sends = sends-by c.end None [] c.input [] c.output [] ready.0 ready.1 (idle-delivers [] [] refl);
  bounded = few;
}

pub carries-law : {D : Type 0} (standing : Option Role) (called : D → Question → Reply → D → Type 0) → CarriesLaw standing called
carries-law standing called = record {
  begins = record { short = All-nil IsShort; fed_is = refl; sends = idle-delivers [] [] refl; bounded = omega arith };
  fed = carries-fed;
  answered = carries-answered standing called;
  sent = carries-sent;
  controlled = carries-controlled;
  anew = carries-anew;
}
