-- What cuts, joins and steps make of what a token knows.
use Rattle.std.specs.Prelude.{◌+◌, ◌-◌, false, List, [], ◌∷◌, ◌++◌}
use Rattle.xa_tokens.specs.declared.ask.Ask.{Ask}
use Rattle.xa_tokens.specs.declared.receipt.Receipt.{Receipt}
use Rattle.xa_tokens.specs.declared.view.View.{View}
use Rattle.xa_tokens.specs.Believed.View.{no_view}

-- the keeper, and what else there is
abbrev pub kept_part : View → View
kept_part v = record no_view { keeps = v.keeps; history = v.history }

abbrev pub other_part : View → View
other_part v = record v { keeps = false; history = [] }

-- a token without its tickets, and these
abbrev pub without_tickets : View → View
without_tickets v = record v { tickets = [] }

abbrev pub only_tickets : View → View
only_tickets v = record no_view { tickets = v.tickets }

-- a token less one part, and a share with that
abbrev pub less_one : View → View
less_one v = record v { parts = v.parts - 1 }

abbrev pub one_part : View → View
one_part v = record no_view { parts = 1 }

-- both as one, if the second is not the keeper
abbrev pub joined : View → View → View
joined v w = record {
  keeps = v.keeps;
  history = v.history;
  parts = v.parts + w.parts;
  asked = v.asked ++ w.asked;
  told = v.told ++ w.told;
  tickets = v.tickets ++ w.tickets;
  given_up = v.given_up ++ w.given_up;
}

-- it asks for one more thing, and has the ticket
abbrev pub asking : Ask → View → View
asking ask v = record v { asked = v.asked ++ ask ∷ []; tickets = v.tickets ++ ask ∷ [] }

-- it gives up what its tickets are for
abbrev pub giving_up : View → View
giving_up v = record v { tickets = []; given_up = v.given_up ++ v.tickets }

-- a list less its last
abbrev pub less_last : List Ask → List Ask
less_last [] = []
less_last (a ∷ []) = []
less_last (a ∷ b ∷ rest) = a ∷ less_last (b ∷ rest)

-- it takes back what it asked for last, with the ticket
abbrev pub withdrawing : View → View
withdrawing v = record v { asked = less_last v.asked; tickets = [] }

-- the ask of its one ticket became an entry of the history
abbrev pub answering : Receipt → View → View
answering r v = record v { history = v.history ++ r ∷ []; told = v.told ++ r ∷ []; tickets = [] }
