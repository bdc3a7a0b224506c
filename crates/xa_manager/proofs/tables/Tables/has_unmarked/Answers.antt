use Rattle.std.proofs.Common.{◌≡◌, [], ap, sym, ◌∙◌}
use Rattle.std.specs.List.{list_any}
use Rattle.xa_assoc.proofs.OwnAny.{own_any_is}
use Rattle.xa_manager.specs.Unmarked.{is_unmarked}
use Rattle.xa_manager.proofs.tables.Tables.has_unmarked.Goals as goal

pub returns-in-Some : goal.returns-in-Some
returns-in-Some c = λ s st.
    sym (own_any_is (is_unmarked s) c.args.session c.args.self.now.sessions s st.sessions)
    ∙ ap (list_any (is_unmarked s)) (sym c.in-Some.ensures.some)
    ∙ c.is_any_unmarked.ensures s st

pub returns-in-None : goal.returns-in-None
returns-in-None c = λ s st.
    sym (own_any_is (is_unmarked s) c.args.session c.args.self.now.sessions s st.sessions)
    ∙ ap (list_any (is_unmarked s)) c.in-None.ensures.none
