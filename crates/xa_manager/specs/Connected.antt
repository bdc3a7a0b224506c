-- Who is connected to a manager.
use Rattle.xa_assoc.specs.Company.{Company, company_of}
use Rattle.xa_manager.specs.declared.manager.Manager.{Manager}
use Rattle.xa_manager.specs.Believed.Parts.{sessions_of}

abbrev pub connected_to : {D : Type 0} → Manager D → Company
connected_to m = company_of (sessions_of m)
