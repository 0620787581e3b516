use Rattle.dmf_valuing.proofs.parts.find_losses.Goals as goal

pub returns-in_ok-losses_of_arcs-in-Arcs : goal.returns-in_ok-losses_of_arcs-in-Arcs
returns-in_ok-losses_of_arcs-in-Arcs g c = rw c.in-Arcs.is c.in_ok-losses_of_arcs-in-Arcs.ensures

pub returns-in_ok-losses_of_arcs-in-Seconds : goal.returns-in_ok-losses_of_arcs-in-Seconds
returns-in_ok-losses_of_arcs-in-Seconds g c = rw c.in-Seconds.is c.in_ok-losses_of_arcs-in-Seconds.ensures

pub returns-in_ok-losses_of_nodes-in-Nodes : goal.returns-in_ok-losses_of_nodes-in-Nodes
returns-in_ok-losses_of_nodes-in-Nodes g c = rw c.in-Nodes.is c.in_ok-losses_of_nodes-in-Nodes.ensures

pub returns-in-WorstArcs : goal.returns-in-WorstArcs
returns-in-WorstArcs g c = rw c.in-WorstArcs.is c.worst_arcs_watched.ensures

pub returns-in-WorstNodes : goal.returns-in-WorstNodes
returns-in-WorstNodes g c = rw c.in-WorstNodes.is c.worst_nodes_watched.ensures

pub returns-in-WorstPairs : goal.returns-in-WorstPairs
returns-in-WorstPairs g c = rw c.in-WorstPairs.is c.worst_pairs_watched.ensures
