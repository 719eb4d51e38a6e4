use Rattle.steal_pool.proofs.EachBin.{each_bin_once}
use Rattle.steal_pool.proofs.laws.each_bin_is_in_one_list.Goals as goal

pub returns : goal.returns
returns c = each_bin_once
