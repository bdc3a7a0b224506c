-- A turn of a connection carries on.
use Rattle.std.proofs.Common.{◌≡◌, ℕ, Option, List, [], ◌∷◌, ◌++◌, take, drop, refl, sym, subst, inl, inr, append_assoc, append-nil}
use Rattle.xa_frame.specs.declared.question.Question.{Question}
use Rattle.xa_frame.specs.declared.reply.Reply.{Reply}
use Rattle.xa_roles.specs.declared.role.Role.{Role}
use Rattle.xa_connection.proofs.Allowing.{answers-append-to}
use Rattle.xa_connection.specs.declared.answering.Answering.{Answering}
use Rattle.xa_connection.specs.declared.answering.Answering.TheVariants.{Idle, Answered, Memory}
use Rattle.xa_connection.specs.declared.connection.Connection.{Connection}
use Rattle.xa_connection.specs.Calls.{Turns}
use Rattle.xa_connection.specs.Carries.{Carries}
use Rattle.xa_connection.proofs.Carrying.{carries-law}
use Rattle.xa_reactor.specs.Turning.{CarriesOn, HasAnswered, HasFed, HasSent}

-- the same of equal lists
carries_by : (contents contents' : List (List ℕ)) (replies replies' : List Reply) (fed fed' sent sent' : List ℕ) (c c' : Connection)
    → contents' ≡ contents → replies' ≡ replies → fed' ≡ fed → sent' ≡ sent → c' ≡ c → Carries contents replies fed sent c
    → Carries contents' replies' fed' sent' c'
carries_by contents contents' replies replies' fed fed' sent sent' c c' p q r s t h =
    subst (λ (x : List (List ℕ)). Carries x replies' fed' sent' c') (sym p)
    (subst (λ (x : List Reply). Carries contents x fed' sent' c') (sym q)
    (subst (λ (x : List ℕ). Carries contents replies x sent' c') (sym r)
    (subst (λ (x : List ℕ). Carries contents replies fed x c') (sym s)
    (subst (λ (x : Connection). Carries contents replies fed sent x) (sym t) h))))

module _ {D : Type 0} (standing : Option Role) (called : D → Question → Reply → D → Type 0) where
  pub carries_same : (c c' : Connection) (d : D) → c' ≡ c → CarriesOn standing called c d c' d
  carries_same c c' d same contents replies fed sent h = (
    [],
    [],
    [],
    [],
    refl,
    carries_by contents (contents ++ []) replies (replies ++ []) fed (fed ++ []) sent (sent ++ []) c c'
        (append-nil contents) (append-nil replies) (append-nil fed) (append-nil sent) same h,
  )

  carries_fed : (c c' : Connection) (d : D) → HasFed c c' → CarriesOn standing called c d c' d
  carries_fed c c' d (inl same) contents replies fed sent h = carries_same c c' d same contents replies fed sent h
  carries_fed c c' d (inr (bytes, count, feeds)) contents replies fed sent h =
      let more : List ℕ = take count bytes in (
        [],
        [],
        more,
        [],
        refl,
        carries_by contents (contents ++ []) replies (replies ++ []) (fed ++ more) (fed ++ more) sent (sent ++ []) c' c'
            (append-nil contents) (append-nil replies) refl (append-nil sent) refl
            ((carries-law standing called).fed contents replies fed sent bytes count c c' h feeds),
      )

  carries_sent : (c c' : Connection) (d : D) → HasSent c c' → CarriesOn standing called c d c' d
  carries_sent c c' d (inl same) contents replies fed sent h = carries_same c c' d same contents replies fed sent h
  carries_sent c c' d (inr (count, is)) contents replies fed sent h =
      let gone : List ℕ = take count c.output in
      let left : Connection = record c { output = drop count c.output } in (
        [],
        [],
        [],
        gone,
        refl,
        carries_by contents (contents ++ []) replies (replies ++ []) fed (fed ++ []) (sent ++ gone) (sent ++ gone) left c'
            (append-nil contents) (append-nil replies) (append-nil fed) refl is
            ((carries-law standing called).sent contents replies fed sent count c h),
      )

  carries_answered : (answering : Answering) (c c' : Connection) (d e : D) → Turns standing called c d answering c' e → CarriesOn standing called c d c' e
  carries_answered answering c c' d e turns contents replies fed sent h =
      let told = (carries-law standing called).answered contents replies fed sent answering c c' d e h turns in (
        told.0,
        told.1,
        [],
        [],
        told.2,
        carries_by (contents ++ told.0) (contents ++ told.0) (replies ++ told.1) (replies ++ told.1) fed (fed ++ []) sent (sent ++ []) c' c'
            refl refl (append-nil fed) (append-nil sent) refl told.3,
      )

  carries_twice : (a b c : Connection) (d e f : D) → CarriesOn standing called a d b e → CarriesOn standing called b e c f → CarriesOn standing called a d c f
  carries_twice a b c d e f first second contents replies fed sent h =
      let one = first contents replies fed sent h in
      let two = second (contents ++ one.0) (replies ++ one.1) (fed ++ one.2) (sent ++ one.3) one.5 in (
        one.0 ++ two.0,
        one.1 ++ two.1,
        one.2 ++ two.2,
        one.3 ++ two.3,
        answers-append-to standing called d e f one.0 two.0 one.1 two.1 one.4 two.4,
        carries_by ((contents ++ one.0) ++ two.0) (contents ++ (one.0 ++ two.0)) ((replies ++ one.1) ++ two.1) (replies ++ (one.1 ++ two.1))
            ((fed ++ one.2) ++ two.2) (fed ++ (one.2 ++ two.2)) ((sent ++ one.3) ++ two.3) (sent ++ (one.3 ++ two.3)) c c
            (sym (append_assoc contents one.0 two.0)) (sym (append_assoc replies one.1 two.1)) (sym (append_assoc fed one.2 two.2))
            (sym (append_assoc sent one.3 two.3)) refl two.5,
      )

  -- one frame at most was answered
  pub has_answered : (answering : Answering) (c c' : Connection) (d e : D) → Turns standing called c d answering c' e → HasAnswered standing called d e
  has_answered Idle c c' d e t = ([], [], sym t.2)
  has_answered Answered c c' d e t =
      elim t.2 [ inl k ↦ (k.0 ∷ [], t.1 ∷ [], (e, k.3, refl)) | inr k ↦ ([], [], sym k.2) ]
  has_answered Memory c c' d e t =
      elim t.3 [ inl k ↦ (k.0 ∷ [], t.1 ∷ [], (e, k.3, refl)) | inr k ↦ ([], [], sym k.2) ]

  pub none_answered : (d : D) → HasAnswered standing called d d
  none_answered d = ([], [], refl)

  -- something was sent
  pub carries_on_sent : (c c' : Connection) (d : D) → HasSent c c' → CarriesOn standing called c d c' d
  carries_on_sent c c' d sent = carries_sent c c' d sent

  -- something was sent, and then something came in
  pub carries_on_fed : (a b c : Connection) (d : D) → HasSent a b → HasFed b c → CarriesOn standing called a d c d
  carries_on_fed a b c d sent fed = carries_twice a b c d d d (carries_sent a b d sent) (carries_fed b c d fed)

  -- then a frame was answered, and something was sent
  pub carries_on : (a b c e f : Connection) (d d' : D) (answering : Answering) → HasSent a b → HasFed b c
      → Turns standing called c d answering e d' → HasSent e f → CarriesOn standing called a d f d'
  carries_on a b c e f d d' answering sent fed turns gone =
      carries_twice a c f d d d' (carries_on_fed a b c d sent fed)
      (carries_twice c e f d d' d' (carries_answered answering c e d d' turns) (carries_sent e f d' gone))
