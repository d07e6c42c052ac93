use Rattle.replica.proofs.AdmitStore.{begins_by, begins_none}
use Rattle.replica.proofs.file.admitting.begun_set.Goals as goal

pub returns-in-Some : goal.returns-in-Some
returns-in-Some c = begins_by c.set_of.result c.args.ask.now.copy c.in-Some.copy c.in-Some.is c.set_of.ensures

pub returns-in-None : goal.returns-in-None
returns-in-None c = begins_none c.new.result c.args.ask.now.copy c.in-None.is c.new.ensures
