use Rattle.dmf_program.proofs.run.run_valuing.Goals as goal

pub returns-in-Arcs : goal.returns-in-Arcs
returns-in-Arcs g c = rw c.in-Arcs.is c.run_vital.ensures.run

pub returns-in-Seconds : goal.returns-in-Seconds
returns-in-Seconds g c = rw c.in-Seconds.is c.run_vital_second.ensures.run

pub returns-in-Nodes : goal.returns-in-Nodes
returns-in-Nodes g c = rw c.in-Nodes.is c.run_vital_nodes.ensures.run

pub returns-in-WorstArcs : goal.returns-in-WorstArcs
returns-in-WorstArcs g c = rw c.in-WorstArcs.is c.run_vital_worst.ensures.run

pub returns-in-WorstNodes : goal.returns-in-WorstNodes
returns-in-WorstNodes g c = rw c.in-WorstNodes.is c.run_vital_worst_nodes.ensures.run

pub returns-in-WorstPairs : goal.returns-in-WorstPairs
returns-in-WorstPairs g c = rw c.in-WorstPairs.is c.run_vital_worst_pairs.ensures.run
