mod NetworkLaws
