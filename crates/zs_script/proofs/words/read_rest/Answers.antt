use Rattle.zs_script.proofs.words.read_rest.Goals as goal

pub returns-in-Fetch : goal.returns-in-Fetch
returns-in-Fetch c = rw c.in-Fetch.is c.read_fetch.ensures
