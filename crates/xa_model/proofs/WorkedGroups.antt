-- The worked rows of groups compute.
use Rattle.std.proofs.Common.{◌≡◌, ◌<◌, ◌⊎◌, ℕ, List, [], ◌∷◌, inl, inr, refl, sym, ap, subst, ◌∙◌, arith}
use Rattle.std.specs.Prelude.{Contains}
use Rattle.std.specs.List.{AllByRecursion}
use Rattle.xa_codes.specs.declared.codes.TheConstants.{XAER_RMERR}
use Rattle.xa_codes.specs.declared.detail.Detail.TheVariants as detail
use Rattle.xa_model.specs.State.{State}
use Rattle.xa_model.specs.Answer.{Answer, answer, detailed}
use Rattle.xa_model.specs.Crash.{IsFate}
use Rattle.xa_model.specs.Durable.{Durable, PreparedBranch}
use Rattle.xa_model.specs.Logging.{applied}
use Rattle.xa_model.specs.Restarting.{fates}
use Rattle.xa_model.specs.Worked.{done}
use Rattle.xa_model.specs.Worked.Device.{down_with}
use Rattle.xa_model.specs.declared.outcome.Appending.TheVariants.{Kept, Refused}
use Rattle.xa_model.specs.Worked.Groups.{two_idle, two_lost, prepared_2, both_held, second_held, together}
use Rattle.xa_model.specs.Worked.Log.{xid_1, xid_2}
use Rattle.xa_model.specs.Worked.Scripts.{kept, refused, prepares}
use Rattle.xa_model.specs.Worked.Turns.{prepared_1, nothing_held, held, no_device}
use Rattle.xa_model.proofs.Fated.{all_contained}
use Rattle.xa_model.proofs.LeftOfTwo.{left_of_two}
use Rattle.xa_model.specs.Worked.Groups.{GroupKept, GroupRefused, CompletionsRefused, GroupLost, GroupCut, CommitWithPrepare, RefusedWhileDown, FatesOfGroup, WhatJoins, NoneJoinsBoot, GroupLeaves, GroupReopened, LostPromises, JudgedTogether, WhichJoin}

pub group_kept : GroupKept
group_kept = refl

pub group_refused : GroupRefused
group_refused = refl

pub completions_refused : CompletionsRefused
completions_refused = refl

pub group_lost : GroupLost
group_lost = (refl, refl, refl, refl, refl)

pub group_cut : GroupCut
group_cut = refl

pub commit_with_prepare : CommitWithPrepare
commit_with_prepare = (refl, refl)

pub refused_while_down : RefusedWhileDown
refused_while_down = refl

pub fates_of_group : FatesOfGroup
fates_of_group = (refl, refl, refl, refl, refl)

pub what_joins : WhatJoins
what_joins = (refl, refl, refl, refl, refl, refl, refl, refl, refl, refl)

pub none_joins_boot : NoneJoinsBoot
none_joins_boot = (refl, refl, refl, refl)

-- what is left isn't the second record alone

first_in : List PreparedBranch → ℕ
first_in [] = 0
first_in (p ∷ ps) = p.timestamp

not_second : (d : Durable) (n : ℕ) → first_in d.prepared ≡ n → n < 4294967298 → d ≡ second_held → ⊥
unfolding first_in
not_second d n e less same =
    let time : n ≡ 4294967298 = sym e ∙ ap (λ (c : Durable). first_in c.prepared) same in omega (arith, time, less)

nothing_isnt : nothing_held ≡ second_held → ⊥
unfolding first_in
nothing_isnt = not_second nothing_held 0 refl (omega arith)

held_isnt : held ≡ second_held → ⊥
unfolding first_in
held_isnt = not_second held 4294967297 refl (omega arith)

both_isnt : both_held ≡ second_held → ⊥
unfolding first_in
both_isnt = not_second both_held 4294967297 refl (omega arith)

-- so none of these is
among : (xs : List Durable) (s : State) → fates s ≡ xs → AllByRecursion (λ (d : Durable). d ≡ second_held → ⊥) xs → IsFate s second_held → ⊥
among xs s e none left =
    all_contained (λ (d : Durable). d ≡ second_held → ⊥) xs second_held none (subst (λ (l : List Durable). Contains l second_held) e left) refl

never_second : (own next : Answer) (xs ys : List Durable) → fates own.after ≡ xs → fates next.after ≡ ys
    → AllByRecursion (λ (d : Durable). d ≡ second_held → ⊥) xs → AllByRecursion (λ (d : Durable). d ≡ second_held → ⊥) ys
    → IsFate two_idle second_held ⊎ (IsFate own.after second_held ⊎ IsFate next.after second_held)
    ⊎ (IsFate (down_with two_idle prepared_1) second_held ⊎ IsFate two_lost second_held) → ⊥
never_second own next xs ys e f no_x no_y (inl fate) = among (nothing_held ∷ []) two_idle refl (nothing_isnt, tt) fate
never_second own next xs ys e f no_x no_y (inr (inl (inl fate))) = among xs own.after e no_x fate
never_second own next xs ys e f no_x no_y (inr (inl (inr fate))) = among ys next.after f no_y fate
never_second own next xs ys e f no_x no_y (inr (inr (inl fate))) =
    among (nothing_held ∷ held ∷ []) (down_with two_idle prepared_1) refl (nothing_isnt, (held_isnt, tt)) fate
never_second own next xs ys e f no_x no_y (inr (inr (inr fate))) =
    among (nothing_held ∷ held ∷ both_held ∷ []) two_lost refl (nothing_isnt, (held_isnt, (both_isnt, tt))) fate

pub group_leaves : GroupLeaves
group_leaves =
    let lost = answer no_device (down_with two_idle prepared_1) in
    let both = answer no_device two_lost in
    let one = answer done (applied prepared_1 two_idle) in
    let two = answer done (applied prepared_2 (applied prepared_1 two_idle)) in
    let failed = detailed XAER_RMERR detail.Device in
    let no_change = answer failed two_idle in (
      (
        inl (inl (inl (0, omega arith, refl))),
        inl (inl (inr (inr (1, omega arith, refl)))),
        inl (inr (inr (refl, (2, omega arith, refl)))),
        λ left. never_second one two (held ∷ []) (both_held ∷ []) refl refl (held_isnt, tt) (both_isnt, tt)
            (left_of_two two_idle (kept (prepares 1 xid_1 done)) (together Kept (prepares 1 xid_2 done)) second_held one lost both two refl refl refl refl refl left),
      ),
      (
        inl (inl (inl (0, omega arith, refl))),
        inl (inl (inr (inr (1, omega arith, refl)))),
        inl (inr (inr (refl, (2, omega arith, refl)))),
        λ left. never_second no_change no_change (nothing_held ∷ []) (nothing_held ∷ []) refl refl (nothing_isnt, tt) (nothing_isnt, tt)
            (left_of_two two_idle (refused (prepares 1 xid_1 failed)) (together Refused (prepares 1 xid_2 failed)) second_held no_change lost both no_change refl refl refl refl refl left),
      ),
    )

pub group_reopened : GroupReopened
group_reopened = (refl, refl, refl, refl)

pub lost_promises : LostPromises
lost_promises = ((refl, inr (refl, refl)), λ prepared. cc prepared.1)

pub judged_together : JudgedTogether
judged_together = (refl, refl, refl, refl)

pub which_join : WhichJoin
which_join = (
  ((λ no_one. cc no_one), ((λ joined. refl), ((λ joined. refl), ((λ no_one. refl), ((λ joined. refl), tt))))),
  (λ groups. cc (groups.0 refl)),
  (λ groups. cc (groups.1.0 refl)),
  (λ groups. cc (groups.1.1.0 refl)),
)
