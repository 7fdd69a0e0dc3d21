use Rattle.std.proofs.Common.{ap, sym, ◌∙◌}
use Rattle.nv_model.specs.Admin.{active_structure}
use Rattle.nv_admin.specs.DataStructure.{content}
use Rattle.nv_admin.proofs.data_structure.DataStructure.write.Goals as goal

pub returns-in-Controller : goal.returns-in-Controller
returns-in-Controller c = c.write_fields-in-Controller.ensures ∙ ap content (sym c.in-Controller.is)

pub returns-in-ActiveNamespaces-eq0 : goal.returns-in-ActiveNamespaces-eq0
returns-in-ActiveNamespaces-eq0 c =
    c.write_fields-in-ActiveNamespaces-eq0.ensures
    ∙ ap active_structure (sym (sym c.in-ActiveNamespaces-eq0.above-is ∙ c.in-ActiveNamespaces-eq0.above-test))
    ∙ ap content (sym c.in-ActiveNamespaces-eq0.is)
